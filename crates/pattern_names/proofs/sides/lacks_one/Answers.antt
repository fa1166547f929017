use Rattle.std.proofs.Common.{◌≡◌, ◌∙◌, ◌+◌, ◌-◌, ℕ, suc, Bool, true, false, not, ap, arith, map, sym}
use Rattle.std.specs.List.{list_any, range_with_len}
use Rattle.pattern_names.specs.Sides.{wants_dentate_of}
use Rattle.pattern_rows.specs.Views.{state_at}
use Rattle.pattern_names.proofs.sides.lacks_one.Goals as goal

-- a test that the first of some numbers fails is left to the others
left : (p : ℕ → Bool) (a n m : ℕ) (all : Bool) → n ≡ suc m → p a ≡ false → list_any p (range_with_len a n) ≡ all
    → list_any p (range_with_len (a + 1) m) ≡ all
left p a n m all more fails is = rw (more, fails) at is

pub loop-place-preserved : goal.loop-place-preserved
loop-place-preserved c =
    let rows = map (state_at c.args.bytes.now) c.args.rows.now in
    let place = c.loop-place.place in
    let wants = λ (d : ℕ). list_any (wants_dentate_of c.args.entity c.args.word.now d) rows in
    let found : wants (place + 1) ≡ true
    = sym (c.has_dentate.ensures ∙ ap (λ d. wants (d + 1)) c.from.ensures) ∙ c.if-not-has_dentate.false in
    left (λ d. not (wants d)) (place + 1) (c.args.dentates - place)
    (c.args.dentates - (place + 1)) _ (omega arith) (ap not found) c.loop-place.invariant
