-- the values of a cell and of an explicit lattice, read together
use Rattle.std.proofs.Common.{◌≡◌, ◌∙◌, ap, arith, sym, subst, ℕ, ◌*◌, ◌≤◌, List, Option, Some, Result, Ok, length, map}
use Rattle.std.specs.Result.{result_ok}
use Rattle.kmc_base.specs.declared.limits.TheConstants.{MAX_SITES}
use Rattle.deck_shape.specs.Blocks.{BlockLines}
use Rattle.deck_shape.specs.Names.{NameWord}
use Rattle.deck_values.proofs.NameFaults.{with_fault-map}
use Rattle.deck_words.specs.Faults.{both, value_map, with_fault}
use Rattle.deck_words.specs.declared.fault.LineFault.{LineFault}
use Rattle.deck_words.specs.declared.keyword.Keyword.TheVariants.{NCellSites, NSites}
use Rattle.lattice_cell.specs.Faultless.{IsFaultlessCell}
use Rattle.lattice_deck.specs.Ends.{AreEnds}
use Rattle.lattice_deck.specs.Joins.{join_from}
use Rattle.lattice_deck.specs.Parts.{cell_joins, cell_repeats, cell_sizes, cell_unused, listed_rows, listed_unused, sites_in, type_names, type_words}
use Rattle.lattice_deck.specs.Sizes.{AreRepeats}
use Rattle.lattice_deck.specs.declared.joins.JoinRow.{JoinRow}
use Rattle.site_rows.specs.SiteRows.{SiteRow}
use Rattle.site_rows.specs.declared.type_word.TheConstants.{MAX_SITE_TYPES}
use Rattle.lattice_deck.proofs.Readings.{both_mapped, both_parts, is_ok, value_same, without_fault}
use Rattle.lattice_deck.proofs.RowCounts.{rows_count}
use Rattle.lattice_deck.proofs.SoundJoins.{AreSound, faultless_cell, joins_sound}
use Rattle.lattice_deck.proofs.SizesSound.{AreFew, IsIn, cell_bounds, names_bounds, sites_bounds, words_count}
use Rattle.lattice_deck.specs.declared.ranges.TheConstants.{SITE_COUNT}

pub record AreCell (sites : ℕ) (repeats : ℕ × ℕ) (names : List (List ℕ)) (words : List NameWord) : Type 0 where
  pub some : AreRepeats repeats
  pub some_sites : 1 ≤ length words
  pub few : repeats.0 * repeats.1 * length words ≤ MAX_SITES
  pub few_names : length names ≤ MAX_SITE_TYPES
  pub count : length words ≡ sites

module _ {N W J : Type 0} (f : N → List (List ℕ)) (g : W → List NameWord) (h : J → List JoinRow)
    (block : BlockLines) (unused : Option LineFault) (sites : Result ℕ LineFault) (repeats : Result (ℕ × ℕ) LineFault)
    (names : Result N LineFault) (words : Result W LineFault) (joins : Result J LineFault)
    (sites_are : sites ≡ sites_in NCellSites block) (repeats_are : repeats ≡ cell_repeats block)
    (names_are : value_map f names ≡ type_names block)
    (words_are : value_map g words ≡ type_words (result_ok (sites_in NCellSites block)) block) where
  pub cell_facts : (s : ℕ) (r : ℕ × ℕ) (n : N) (w : W) (j : J)
      → with_fault unused (both (both sites repeats) (both names (both words joins))) ≡ Ok ((s, r), (n, (w, j)))
      → AreCell s r (f n) (g w) × (sites ≡ Ok s) × (joins ≡ Ok j)
  cell_facts s r n w j is =
      let all = both_parts (both sites repeats) (both names (both words joins)) ((s, r), (n, (w, j)))
      (without_fault unused (both (both sites repeats) (both names (both words joins))) ((s, r), (n, (w, j))) is) in
      let sizes = both_parts sites repeats (s, r) all.0 in
      let lists = both_parts names (both words joins) (n, (w, j)) all.1 in
      let rest = both_parts words joins (w, j) lists.1 in
      let known : result_ok (sites_in NCellSites block) ≡ Some s = ap result_ok (sym sites_are ∙ sizes.0) in
      let few = is_ok (AreFew (result_ok (sites_in NCellSites block))) (cell_repeats block) r (sym repeats_are ∙ sizes.1) (cell_bounds block) in
      let bounds = is_ok (IsIn SITE_COUNT) (sites_in NCellSites block) s (sym sites_are ∙ sizes.0) (sites_bounds NCellSites block) in
      let short = is_ok (λ ns. length ns ≤ MAX_SITE_TYPES) (type_names block) (f n) (sym names_are ∙ ap (value_map f) lists.0) (names_bounds block) in
      let count : length (g w) ≡ s = is_ok (λ ws. length ws ≡ s) (type_words (Some s) block) (g w)
      (ap (λ k. type_words k block) (sym known) ∙ sym words_are ∙ ap (value_map g) rest.0) (words_count s block) in (
        record {
          some = (few.columns, few.rows);
          some_sites = omega (arith, count, bounds.0);
          few = subst (λ k. r.0 * r.1 * k ≤ MAX_SITES) (sym count) (few.few s known);
          few_names = short;
          count = count;
        },
        sizes.0,
        rest.1,
      )

  -- its joins have no fault
  pub cell_sound : (s : ℕ) (r : ℕ × ℕ) (n : N) (w : W) (j : J) → value_map h joins ≡ cell_joins block
      → with_fault unused (both (both sites repeats) (both names (both words joins))) ≡ Ok ((s, r), (n, (w, j)))
      → AreEnds (Some s) (h j) → IsFaultlessCell r.0 r.1 s (map join_from (h j))
  cell_sound s r n w j joins_are is ends =
      let all = both_parts (both sites repeats) (both names (both words joins)) ((s, r), (n, (w, j)))
      (without_fault unused (both (both sites repeats) (both names (both words joins))) ((s, r), (n, (w, j))) is) in
      let sizes = both_parts sites repeats (s, r) all.0 in
      let lists = both_parts names (both words joins) (n, (w, j)) all.1 in
      let rest = both_parts words joins (w, j) lists.1 in
      let sound = is_ok (AreSound (cell_sizes block)) (cell_joins block) (h j) (sym joins_are ∙ ap (value_map h) rest.1) (joins_sound block) in
      faultless_cell (cell_sizes block) (h j) sound s r (ap result_ok (sym sites_are ∙ sizes.0)) (ap result_ok (sym repeats_are ∙ sizes.1)) ends

  pub cell_read : value_map h joins ≡ cell_joins block → unused ≡ cell_unused block
      → with_fault (cell_unused block)
      (both (both (sites_in NCellSites block) (cell_repeats block))
      (both (type_names block) (both (type_words (result_ok (sites_in NCellSites block)) block) (cell_joins block))))
      ≡ value_map (λ v. (v.0, (f v.1.0, (g v.1.1.0, h v.1.1.1))))
      (with_fault unused (both (both sites repeats) (both names (both words joins))))
  cell_read joins_are none =
      let lists : both (type_names block) (both (type_words (result_ok (sites_in NCellSites block)) block) (cell_joins block))
      ≡ value_map (λ v. (f v.0, (g v.1.0, h v.1.1))) (both names (both words joins)) =
      ap (λ a. both a (both (type_words (result_ok (sites_in NCellSites block)) block) (cell_joins block))) (sym names_are)
      ∙ ap (λ b. both (value_map f names) (both b (cell_joins block))) (sym words_are)
      ∙ ap (λ b. both (value_map f names) (both (value_map g words) b)) (sym joins_are)
      ∙ ap (both (value_map f names)) (both_mapped g h words joins)
      ∙ both_mapped f (λ v. (g v.0, h v.1)) names (both words joins) in
      let sizes : both (sites_in NCellSites block) (cell_repeats block) ≡ value_map (λ v. v) (both sites repeats) =
      ap (λ a. both a (cell_repeats block)) (sym sites_are) ∙ ap (both sites) (sym repeats_are) ∙ value_same (both sites repeats) in
      ap (λ u. with_fault u (both (both (sites_in NCellSites block) (cell_repeats block))
      (both (type_names block) (both (type_words (result_ok (sites_in NCellSites block)) block) (cell_joins block))))) (sym none)
      ∙ ap (λ a. with_fault unused (both a
      (both (type_names block) (both (type_words (result_ok (sites_in NCellSites block)) block) (cell_joins block))))) sizes
      ∙ ap (λ b. with_fault unused (both (value_map (λ v. v) (both sites repeats)) b)) lists
      ∙ ap (with_fault unused) (both_mapped (λ v. v) (λ v. (f v.0, (g v.1.0, h v.1.1))) (both sites repeats) (both names (both words joins)))
      ∙ sym (with_fault-map (λ v. (v.0, (f v.1.0, (g v.1.1.0, h v.1.1.1)))) unused (both (both sites repeats) (both names (both words joins))))

module _ {N R : Type 0} (f : N → List (List ℕ)) (g : R → List SiteRow)
    (block : BlockLines) (unused : Option LineFault) (sites : Result ℕ LineFault) (names : Result N LineFault) (rows : Result R LineFault)
    (sites_are : sites ≡ sites_in NSites block) (names_are : value_map f names ≡ type_names block) where
  pub listed_facts : (s : ℕ) (n : N) (r : R) → with_fault unused (both sites (both names rows)) ≡ Ok (s, (n, r))
      → (1 ≤ s) × (s ≤ MAX_SITES) × (length (f n) ≤ MAX_SITE_TYPES)
  listed_facts s n r is =
      let all = both_parts sites (both names rows) (s, (n, r)) (without_fault unused (both sites (both names rows)) (s, (n, r)) is) in
      let lists = both_parts names rows (n, r) all.1 in
      let bounds = is_ok (IsIn SITE_COUNT) (sites_in NSites block) s (sym sites_are ∙ all.0) (sites_bounds NSites block) in
      let short = is_ok (λ ns. length ns ≤ MAX_SITE_TYPES) (type_names block) (f n) (sym names_are ∙ ap (value_map f) lists.0) (names_bounds block) in
      (bounds.0, bounds.1, short)

  -- there is a row for each site
  pub listed_count : (s : ℕ) (n : N) (r : R) → value_map g rows ≡ listed_rows (result_ok (sites_in NSites block)) block
      → with_fault unused (both sites (both names rows)) ≡ Ok (s, (n, r)) → length (g r) ≡ s
  listed_count s n r rows_are is =
      let all = both_parts sites (both names rows) (s, (n, r)) (without_fault unused (both sites (both names rows)) (s, (n, r)) is) in
      let lists = both_parts names rows (n, r) all.1 in
      let known : result_ok (sites_in NSites block) ≡ Some s = ap result_ok (sym sites_are ∙ all.0) in
      is_ok (λ rs. length rs ≡ s) (listed_rows (Some s) block) (g r)
      (ap (λ k. listed_rows k block) (sym known) ∙ sym rows_are ∙ ap (value_map g) lists.1) (rows_count s block)

  pub listed_read : value_map g rows ≡ listed_rows (result_ok (sites_in NSites block)) block → unused ≡ listed_unused block
      → with_fault (listed_unused block) (both (sites_in NSites block) (both (type_names block) (listed_rows (result_ok (sites_in NSites block))
      block)))
      ≡ value_map (λ v. (v.0, (f v.1.0, g v.1.1))) (with_fault unused (both sites (both names rows)))
  listed_read rows_are none =
      let lists : both (type_names block) (listed_rows (result_ok (sites_in NSites block)) block) ≡ value_map (λ v. (f v.0, g v.1)) (both names
      rows) =
      ap (λ a. both a (listed_rows (result_ok (sites_in NSites block)) block)) (sym names_are)
      ∙ ap (both (value_map f names)) (sym rows_are) ∙ both_mapped f g names rows in
      ap (λ u. with_fault u (both (sites_in NSites block) (both (type_names block) (listed_rows (result_ok (sites_in NSites block)) block))))
      (sym none)
      ∙ ap (λ a. with_fault unused (both a (both (type_names block) (listed_rows (result_ok (sites_in NSites block)) block))))
      (sym sites_are ∙ value_same sites)
      ∙ ap (λ b. with_fault unused (both (value_map (λ v. v) sites) b)) lists
      ∙ ap (with_fault unused) (both_mapped (λ v. v) (λ v. (f v.0, g v.1)) sites (both names rows))
      ∙ sym (with_fault-map (λ v. (v.0, (f v.1.0, g v.1.1))) unused (both sites (both names rows)))

-- what is read in steps is read together
pub cell_chain : {A B C D E : Type 0} (unused : Option LineFault) (sites : Result A LineFault) (repeats : Result B LineFault)
    (names : Result C LineFault) (words : Result D LineFault) (joins : Result E LineFault)
    (first : Result (A × B) LineFault) (last : Result (D × E) LineFault) (lists : Result (C × (D × E)) LineFault)
    (all read : Result ((A × B) × (C × (D × E))) LineFault)
    → first ≡ both sites repeats → last ≡ both words joins → lists ≡ both names last → all ≡ both first lists → read ≡ with_fault unused all
    → with_fault unused (both (both sites repeats) (both names (both words joins))) ≡ read
cell_chain unused sites repeats names words joins first last lists all read one two three four five =
    ap (λ b. with_fault unused (both (both sites repeats) (both names b))) (sym two)
    ∙ ap (λ b. with_fault unused (both (both sites repeats) b)) (sym three)
    ∙ ap (λ a. with_fault unused (both a lists)) (sym one)
    ∙ ap (with_fault unused) (sym four) ∙ sym five

pub listed_chain : {A C D : Type 0} (unused : Option LineFault) (sites : Result A LineFault) (names : Result C LineFault) (rows : Result D LineFault)
    (lists : Result (C × D) LineFault) (all read : Result (A × (C × D)) LineFault)
    → lists ≡ both names rows → all ≡ both sites lists → read ≡ with_fault unused all
    → with_fault unused (both sites (both names rows)) ≡ read
listed_chain unused sites names rows lists all read one two three =
    ap (λ b. with_fault unused (both sites b)) (sym one) ∙ ap (with_fault unused) (sym two) ∙ sym three
