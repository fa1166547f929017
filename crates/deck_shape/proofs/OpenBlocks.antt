-- the open blocks of a reader, of which the innermost is the last
use Rattle.std.proofs.Common.{◌≡◌, ◌∙◌, ◌==◌, ◌&&◌, ℕ, Bool, false, List, [], ◌∷◌, ◌++◌, Vec, Global, ap, length, map, reverse, refl, sym}
use Rattle.std.proofs.lemmas.Bool.{true≢false}
use Rattle.std.specs.Vec.{vec_len}
use Rattle.std.proofs.lemmas.List.{map-append, reverse-append}
use Rattle.deck_shape.specs.Blocks.{BlockLines, SectionLines, block_at, section_at}
use Rattle.deck_shape.specs.Reading.{SoFar, after_inner_block, section_closed, variant_closed}
use Rattle.deck_shape.specs.LineFaults.{is_alone, is_outermost}
use Rattle.deck_shape.specs.declared.reading.Below.{Below}
use Rattle.deck_shape.specs.declared.reading.Below.TheVariants.{Words, Rows, Enclosed}
use Rattle.deck_shape.specs.declared.shape.Block.{Block}
use Rattle.deck_shape.specs.declared.shape.Section.{Section}

-- the innermost of them first
pub innermost_first : (text : List ℕ) (around : List Block) (outer : Block)
    → reverse (map (block_at text) (around ++ outer ∷ [])) ≡ block_at text outer ∷ reverse (map (block_at text) around)
innermost_first text around outer =
    ap reverse (map-append (block_at text) around (outer ∷ [])) ∙ reverse-append (map (block_at text) around) (block_at text outer ∷ [])

no_pushed : {X : Type 0} (xs : List X) (x : X) → xs ++ x ∷ [] ≡ [] → ⊥
no_pushed [] x is = cc
no_pushed (y ∷ xs) x is = cc

pub reverse_filled : {X : Type 0} (xs : List X) → reverse xs ≡ [] → xs ≡ []
reverse_filled [] is = refl
reverse_filled (x ∷ xs) is = absurd (no_pushed (reverse xs) x (sym (reverse-append (x ∷ []) xs) ∙ is))

pub variant_left : (line : ℕ) (section : BlockLines) (others : List BlockLines) (so_far : SoFar) → (others ≡ [] → ⊥)
    → variant_closed line section others so_far ≡ after_inner_block line (section ∷ others) so_far
variant_left line section [] so_far filled = absurd (filled refl)
variant_left line section (outer ∷ others) so_far filled = refl

-- a member more at the end of a list, as another function sees it
pub pushed : {X Y : Type 0} (h : X → Y) (before after : List X) (x : X) (y : Y) → after ≡ before ++ x ∷ [] → h x ≡ y
    → map h after ≡ map h before ++ y ∷ []
pushed h before after x y is same = ap (map h) is ∙ map-append h before (x ∷ []) ∙ ap (λ z. map h before ++ z ∷ []) same

pub section_same : (text : List ℕ) (block : Block) (variants same_variants : List Block) (lines : BlockLines)
    → block_at text block ≡ lines → variants ≡ same_variants
    → section_at text (record { block = block; variants = variants }) ≡ record { block = lines; variants = map (block_at text) same_variants }
section_same text block variants same_variants lines is same =
    let with_block : BlockLines → SectionLines = λ b. record { block = b; variants = map (block_at text) variants } in
    let with_variants : List Block → SectionLines = λ vs. record { block = lines; variants = map (block_at text) vs } in
    ap with_block is ∙ ap with_variants same

-- a reader with nothing but a block of the file and the sections, of which the last is new
pub section_read : (text : List ℕ) (line : ℕ) (file : Block) (around variants : List Block) (sections : List Section) (so_far : SoFar)
    → around ≡ [] → variants ≡ [] → map (section_at text) sections ≡ (section_closed line (block_at text file) so_far).sections
    → record {
      block = block_at text file;
      below = Words;
      around = reverse (map (block_at text) around);
      variants = map (block_at text) variants;
      sections = map (section_at text) sections;
    } ≡ section_closed line (block_at text file) so_far
section_read text line file around variants sections so_far no_around no_variants is =
    let with_around : List Block → SoFar = λ os. record {
      block = block_at text file;
      below = Words;
      around = reverse (map (block_at text) os);
      variants = map (block_at text) variants;
      sections = map (section_at text) sections;
    } in
    let with_variants : List Block → SoFar = λ vs. record {
      block = block_at text file;
      below = Words;
      around = [];
      variants = map (block_at text) vs;
      sections = map (section_at text) sections;
    } in
    let with_sections : List SectionLines → SoFar = λ ss. record {
      block = block_at text file;
      below = Words;
      around = [];
      variants = [];
      sections = ss;
    } in
    ap with_around no_around ∙ ap with_variants no_variants ∙ ap with_sections is

map_none : {X Y : Type 0} (h : X → Y) (xs : List X) → map h xs ≡ [] → xs ≡ []
map_none h [] none = refl
map_none h (x ∷ xs) none = cc

no_length : (around : Vec Block Global) → (vec_len around == 0) ≡ false → around.items ≡ [] → ⊥
no_length around some none = true≢false (ap (λ (n : ℕ). n == 0) (sym (around.ok.0 ∙ ap length none)) ∙ some)

-- blocks of a reader that has some
pub filled : (text : List ℕ) (around : Vec Block Global) → (vec_len around == 0) ≡ false → reverse (map (block_at text) around.items) ≡ [] → ⊥
filled text around some none = no_length around some (map_none (block_at text) around.items (reverse_filled (map (block_at text) around.items) none))

alone_not : (around : List BlockLines) (below : Below) (closing : Bool) → (around ≡ [] → ⊥)
    → ((is_outermost below && is_alone around) && closing) ≡ false
alone_not around (Enclosed rows) closing some = refl
alone_not [] Words closing some = absurd (some refl)
alone_not (outer ∷ others) Words closing some = refl
alone_not [] Rows closing some = absurd (some refl)
alone_not (outer ∷ others) Rows closing some = refl

pub not_alone : (text : List ℕ) (below : Below) (around : Vec Block Global) (closing : Bool) → (vec_len around == 0) ≡ false
    → ((is_outermost below && is_alone (reverse (map (block_at text) around.items))) && closing) ≡ false
not_alone text below around closing some = alone_not (reverse (map (block_at text) around.items)) below closing (filled text around some)
