-- the values of a file that is read are sound
use Rattle.std.proofs.Common.{◌≡◌, ◌∙◌, ◌+◌, ◌*◌, ◌++◌, ⊎_elim, ap, arith, inl, inr, refl, subst, suc, sym, ℕ}
use Rattle.std.proofs.Common.{Bool, false, nat_lt, length, map, IfOk, List, [], ◌∷◌, Some, Result, Ok, Err, sum}
use Rattle.std.proofs.lemmas.List.{map-append}
use Rattle.std.proofs.lemmas.List.Sums.{sum_by-append, sum_by-cons}
use Rattle.std.proofs.lemmas.Result.{IfOk-at_ok, IfOk-weaker}
use Rattle.std.specs.List.{AllByRecursion, flat_map}
use Rattle.std.specs.Result.{result_ok}
use Rattle.deck_shape.specs.Blocks.{BlockLines, FileLines, SectionLines}
use Rattle.deck_values.proofs.Values.{AreSo, unless-holds}
use Rattle.deck_words.proofs.HeldValues.{both-holds, value_map-holds, with_fault-holds}
use Rattle.deck_words.specs.Faults.{all_of, both}
use Rattle.deck_words.specs.declared.fault.LineFault.{LineFault}
use Rattle.deck_words.specs.declared.keyword.Keyword.TheVariants.{Final, Initial}
use Rattle.deck_words.specs.declared.kind.TheConstants.{TOO_MANY_PARTS}
use Rattle.mechanism_deck.specs.Changes.{gas_in}
use Rattle.mechanism_deck.specs.Parts.{directions, part_of, process_count, processes_in}
use Rattle.mechanism_deck.specs.Soundness.{AreChanges, IsSoundBody, IsSoundPart, IsSoundStep}
use Rattle.mechanism_deck.specs.Steps.{BodyValues, StepValues, VariantValues, body_of, has_variants, is_reversible, own_fault}
use Rattle.mechanism_deck.specs.Steps.{step_with, steps_of, variant_values}
use Rattle.mechanism_deck.proofs.SoundChanges.{gas-holds}
use Rattle.mechanism_deck.proofs.SoundVariants.{IsVariant, variant-holds}
use Rattle.pattern_rows.proofs.EntityRows.{AreEntities, entities-hold}
use Rattle.pattern_rows.proofs.HeldParts.{all-hold, all_append, any-holds, not_more, without_sites}
use Rattle.pattern_rows.proofs.Patterns.{makes_pattern}
use Rattle.pattern_rows.specs.Edges.{edges_in}
use Rattle.pattern_rows.specs.Listings.{made_of}
use Rattle.pattern_rows.specs.Patterns.{MakePattern}
use Rattle.pattern_rows.specs.SectionNames.{repeated_name}
use Rattle.pattern_rows.specs.Sites.{sites_in}
use Rattle.pattern_rows.specs.States.{StateWords, states_in}
use Rattle.pattern_rows.specs.Variants.{variants_of}
use Rattle.pattern_types.specs.declared.limits.TheConstants.{MAX_PROCESSES}

-- a value is what is read
is_read : {X : Type 0} (r : Result X LineFault) → IfOk r (λ x. r ≡ Ok x)
is_read (Ok x) = refl
is_read (Err f) = tt

-- a body of so many sites, reversible or not
abbrev IsBody : ℕ → Bool → BodyValues → Type 0
IsBody sites reversible b = (b.sites ≡ sites) × ((b.reversible ≡ reversible) × IsSoundBody b)

module _ (block : BlockLines) (sites : ℕ) (stated : sites_in block ≡ Ok sites) where
  same_sites : (n : ℕ) (edges : List (ℕ × ℕ)) (rows : List StateWords) → n ≡ sites → MakePattern sites edges rows → MakePattern n edges rows
  same_sites n edges rows is make = subst (λ k. MakePattern k edges rows) (sym is) make

  body-holds : IfOk (body_of block (gas_in block) (Ok sites) (edges_in (Some sites) block) (states_in false (Some sites) Initial block)
      (states_in false (Some sites) Final block)) (IsBody sites (is_reversible block.form))
  body-holds =
      let edges = edges_in (Some sites) block in
      let before = states_in false (Some sites) Initial block in
      let after = states_in false (Some sites) Final block in
      let all = both (gas_in block) (both (Ok sites) (both edges (both before after))) in
      value_map-holds (IsBody sites (is_reversible block.form)) _ all
      (IfOk-weaker all
      (λ found. AreChanges found.0
      × ((found.1.0 ≡ sites) × ((edges ≡ Ok found.1.1.0) × ((before ≡ Ok found.1.1.1.0) × (after ≡ Ok found.1.1.1.1))))) _
      (λ found are. (
        are.1.0,
        (
          refl,
          record {
            gas = are.0;
            before = same_sites found.1.0 found.1.1.0 found.1.1.1.0 are.1.0
                (makes_pattern block false Initial sites found.1.1.0 found.1.1.1.0 stated are.1.1.0 are.1.1.1.0);
            after = same_sites found.1.0 found.1.1.0 found.1.1.1.1 are.1.0
                (makes_pattern block false Final sites found.1.1.0 found.1.1.1.1 stated are.1.1.0 are.1.1.1.1);
            entities_before = IfOk-at_ok AreEntities are.1.1.1.0 (entities-hold (Some sites) Initial block);
            entities_after = IfOk-at_ok AreEntities are.1.1.1.1 (entities-hold (Some sites) Final block);
          },
        ),
      ))
      (both-holds AreChanges (λ rest. (rest.0 ≡ sites) × ((edges ≡ Ok rest.1.0) × ((before ≡ Ok rest.1.1.0) × (after ≡ Ok rest.1.1.1))))
      (gas_in block) (both (Ok sites) (both edges (both before after))) (gas-holds block)
      (both-holds (λ n. n ≡ sites) (λ rest. (edges ≡ Ok rest.0) × ((before ≡ Ok rest.1.0) × (after ≡ Ok rest.1.1)))
      (Ok sites) (both edges (both before after)) refl
      (both-holds (λ list. edges ≡ Ok list) (λ rest. (before ≡ Ok rest.0) × (after ≡ Ok rest.1)) edges (both before after) (is_read edges)
      (both-holds (λ rows. before ≡ Ok rows) (λ rows. after ≡ Ok rows) before after (is_read before) (is_read after))))))

-- how many processes some steps are
abbrev processes : List StepValues → ℕ
processes steps = sum (map (λ step. directions step.body.reversible) steps)

one_more : (each count : ℕ) → each + each * count ≡ each * suc count
one_more each count = grind arith

same_processes : (body : BodyValues) (variants : List VariantValues)
    → processes (map (step_with body) variants) ≡ directions body.reversible * length variants
same_processes body [] = omega arith
same_processes body (v ∷ vs) =
    sum_by-cons (λ n. n) (directions body.reversible) (map (λ (step : StepValues). directions step.body.reversible) (map (step_with body) vs))
    ∙ ap (λ n. directions body.reversible + n) (same_processes body vs) ∙ one_more (directions body.reversible) (length vs)

-- the steps of a body and its variants
sound_steps : (sites : ℕ) (reversible : Bool) (body : BodyValues) (variants : List VariantValues) → IsBody sites reversible body
    → AllByRecursion (IsVariant sites reversible) variants → AllByRecursion IsSoundStep (map (step_with body) variants)
sound_steps sites reversible body [] is are = tt
sound_steps sites reversible body (v ∷ vs) is are = (
  record {
    body = is.1.1;
    types = ⊎_elim (λ none. inl none) (λ long. inr (long ∙ sym is.0)) are.0.0;
    numbers = record {
      pre_expon = are.0.1.0;
      pe_ratio = are.0.1.1.0.0;
      activation = are.0.1.1.1.0;
      proximity = are.0.1.1.1.1;
    };
    ratio = λ needed. are.0.1.1.0.1 (sym is.1.0 ∙ needed);
  },
  sound_steps sites reversible body vs is are.1,
)

-- sound steps that are so many processes
abbrev AreSteps : ℕ → List StepValues → Type 0
AreSteps count steps = AllByRecursion IsSoundStep steps × (processes steps ≡ count)

module _ (block : BlockLines) (named : Bool) (variants : List BlockLines) where
  of_sites-hold : (sites : Result ℕ LineFault) → sites_in block ≡ sites
      → IfOk (made_of step_with (body_of block (gas_in block) sites (edges_in (result_ok sites) block)
      (states_in false (result_ok sites) Initial block) (states_in false (result_ok sites) Final block))
      (all_of (map (variant_values named (result_ok sites) block) variants)))
      (AreSteps (directions (is_reversible block.form) * length variants))
  of_sites-hold (Err f) stated =
      let edges = edges_in (result_ok (Err f)) block in
      let before = states_in false (result_ok (Err f)) Initial block in
      let after = states_in false (result_ok (Err f)) Final block in
      let values = all_of (map (variant_values named (result_ok (Err f)) block) variants) in
      let body = body_of block (gas_in block) (Err f) edges before after in
      let sides = both edges (both before after) in
      value_map-holds (AreSteps (directions (is_reversible block.form) * length variants)) _ (both body values)
      (IfOk-weaker (both body values) (λ found. ⊥ × Unit {0}) _ (λ found holds. absurd holds.0)
      (both-holds (λ _. ⊥) (λ _. Unit {0}) body values
      (value_map-holds (λ _. ⊥) _ (both (gas_in block) (both (Err f) sides))
      (IfOk-weaker (both (gas_in block) (both (Err f) sides)) (λ found. Unit {0} × ⊥) _ (λ found holds. holds.1)
      (both-holds (λ _. Unit {0}) (λ _. ⊥) (gas_in block) (both (Err f) sides) (any-holds (gas_in block))
      (without_sites (Err f) f sides refl)))) (any-holds values)))
  of_sites-hold (Ok sites) stated =
      let reversible = is_reversible block.form in
      let body = body_of block (gas_in block) (Ok sites) (edges_in (Some sites) block) (states_in false (Some sites) Initial block)
      (states_in false (Some sites) Final block) in
      let values = all_of (map (variant_values named (Some sites) block) variants) in
      value_map-holds (AreSteps (directions reversible * length variants)) _ (both body values)
      (IfOk-weaker (both body values) (λ found. IsBody sites reversible found.0 × AreSo (IsVariant sites reversible) (length variants) found.1) _
      (λ found holds. (
        sound_steps sites reversible found.0 found.1 holds.0 holds.1.1,
        same_processes found.0 found.1 ∙ ap (λ b. directions b * length found.1) holds.0.1.0
            ∙ ap (λ n. directions reversible * n) holds.1.0,
      ))
      (both-holds (IsBody sites reversible) (AreSo (IsVariant sites reversible) (length variants)) body values
      (body-holds block sites stated)
      (all-hold (IsVariant sites reversible) (variant_values named (Some sites) block) variants (variant-holds named sites block))))

section-holds : (section : SectionLines) → IfOk (steps_of section) (AreSteps (processes_in section))
section-holds section =
    with_fault-holds (AreSteps (processes_in section)) (own_fault (result_ok (sites_in section.block)) section.block) _
    (of_sites-hold section.block (has_variants section) (variants_of section) (sites_in section.block) refl)

more_processes : (steps more : List StepValues) → processes (steps ++ more) ≡ processes steps + processes more
more_processes steps more =
    let each : StepValues → ℕ = λ step. directions step.body.reversible in
    ap sum (map-append each steps more) ∙ sum_by-append (λ n. n) (map each steps) (map each more)

abbrev AreTogether : List SectionLines → List (List StepValues) → Type 0
AreTogether sections lists = AreSteps (process_count sections) (flat_map (λ found. found) lists)

sections-hold : (sections : List SectionLines) → IfOk (all_of (map steps_of sections)) (AreTogether sections)
sections-hold [] = (tt, refl)
sections-hold (section ∷ sections) =
    let first = steps_of section in
    let rest = all_of (map steps_of sections) in
    value_map-holds (AreTogether (section ∷ sections)) (λ found. found.0 ∷ found.1) (both first rest)
    (IfOk-weaker (both first rest) (λ found. AreSteps (processes_in section) found.0 × AreTogether sections found.1) _
    (λ found are. (
      all_append IsSoundStep found.0 (flat_map (λ list. list) found.1) are.0.0 are.1.0,
      more_processes found.0 (flat_map (λ list. list) found.1) ∙ ap (λ n. n + processes (flat_map (λ list. list) found.1)) are.0.1
          ∙ ap (λ n. processes_in section + n) are.1.1
          ∙ sym (sum_by-cons (λ n. n) (processes_in section) (map processes_in sections)),
    ))
    (both-holds (AreSteps (processes_in section)) (AreTogether sections) first rest (section-holds section) (sections-hold sections)))

-- the values of a file without a fault
pub sound_part : (file : FileLines) → IfOk (part_of file) IsSoundPart
sound_part file =
    let lists = all_of (map steps_of file.sections) in
    let count = process_count file.sections in
    unless-holds IsSoundPart (nat_lt MAX_PROCESSES count) file.block.end_line TOO_MANY_PARTS _
    (λ few. with_fault-holds IsSoundPart (repeated_name file.sections) _
    (value_map-holds IsSoundPart _ lists
    (IfOk-weaker lists (AreTogether file.sections) _
    (λ found are. record { steps = are.0; few = not_more _ MAX_PROCESSES (ap (nat_lt MAX_PROCESSES) are.1 ∙ few) })
    (sections-hold file.sections))))
