-- Entries that are filed in the place of others.
use Rattle.std.proofs.Common.{◌≡◌, ℕ, true, false, List, take, drop, Option, None, sym, ◌∙◌, inl, inr}
use Rattle.std.proofs.lemmas.Bool.{cases_Bool}
use Rattle.kmc_base.specs.declared.entry.Entry.{Entry}
use Rattle.process_queue.proofs.RoomLists.{is_in-drop_none, is_in-first_only, is_in-parts, is_in-take_none, taken-kept, taken-take}
use Rattle.process_queue.specs.Filing.{AreDistinct, AreTaken, IsRefiled, in_room, is_in}

module _ (old mid : List (Option Entry)) (before : List ℕ) (count : ℕ)
    (gone : (room : ℕ) → is_in (drop count before) room ≡ true → in_room mid room ≡ None)
    (others : (room : ℕ) → is_in (drop count before) room ≡ false → in_room mid room ≡ in_room old room) where
  -- the first rooms still have entries
  pub still-taken : AreDistinct before → AreTaken old before → AreTaken mid (take count before)
  still-taken distinct taken =
      taken-kept old mid (take count before) (taken-take old before count taken)
      (λ room one. others room (is_in-first_only before count room distinct one))

  -- and then they and more rooms get others
  pub refiled : (new : List (Option Entry)) (after : List ℕ) (entries : List Entry) → IsRefiled mid new (take count before) after entries
      → IsRefiled old new before after entries
  refiled new after entries is = record {
    filed = is.filed;
    gone = λ room one none. elim (cases_Bool (is_in (take count before) room)) [
      | inl first ↦ is.gone room first none
      | inr not_first ↦ is.others room not_first none ∙ gone room (is_in-parts before count room one not_first)
    ];
    fresh = λ room none one.
        sym (others room (is_in-drop_none before count room none)) ∙ is.fresh room (is_in-take_none before count room none) one;
    others = λ room none also.
        is.others room (is_in-take_none before count room none) also ∙ others room (is_in-drop_none before count room none);
  }
