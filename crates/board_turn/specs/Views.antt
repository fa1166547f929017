-- What a pass and the owner know, and how each kind of step changes it. The split and the join are the statements of
-- their types in src/rule.rt; the other changes are said of their steps in Plays.
use Rattle.std.specs.Prelude.{ℕ, ◌+◌, [], ◌∷◌, ◌++◌, true, false, Some, None, bit_and, bit_or}
use Rattle.board_turn.specs.Masks.{mask}
use Rattle.board_turn.specs.declared.view.View.{View}

-- a view that has nothing, as that of a pass which was joined
abbrev pub spent : {K : Type 0} → View K
spent = record {
  key = None;
  leads = false;
  next = 0;
  joined = [];
  number = 0;
  claims = 0;
  seen = 0;
  twice = 0;
  puts = 0;
  holds = false;
  known = 0;
  backing = 0;
  found = [];
}

-- the owner's view at first: it has the key, and the next number is 1
abbrev pub first_owner : {K : Type 0} → K → View K
first_owner key = record {
  key = Some key;
  leads = true;
  next = 1;
  joined = [];
  number = 0;
  claims = 0;
  seen = 0;
  twice = 0;
  puts = 0;
  holds = false;
  known = 0;
  backing = 0;
  found = [];
}

-- splitting: the owner's next number grows
abbrev pub dealing : {K : Type 0} → View K → View K
dealing owner = record owner { next = owner.next + 1 }

-- splitting: the new pass has the number and the key, and has claimed, found and put nothing
abbrev pub new_pass : {K : Type 0} → View K → View K
new_pass owner = record {
  key = owner.key;
  leads = false;
  next = 0;
  joined = [];
  number = owner.next;
  claims = 0;
  seen = 0;
  twice = 0;
  puts = 0;
  holds = false;
  known = 0;
  backing = 0;
  found = [];
}

-- joining: the owner's claims, pieces found claimed, puts and joined numbers grow by the pass's. What both had claimed is noted
abbrev pub joining : {K : Type 0} → View K → View K → View K
joining owner pass = record owner {
  joined = owner.joined ++ pass.number ∷ [];
  claims = bit_or owner.claims pass.claims;
  seen = bit_or owner.seen pass.seen;
  twice = bit_and owner.claims pass.claims;
  puts = bit_or owner.puts pass.puts;
}

-- a claim that found word 0 with the piece's bit set: those pieces are found claimed
abbrev pub finding : {K : Type 0} → View K → ℕ → ℕ → View K
finding v drawn bit = record v { seen = bit_or v.seen (bit_or drawn bit) }

-- a claim that found the bit unset: the piece joins the claims too
abbrev pub claiming : {K : Type 0} → View K → ℕ → ℕ → View K
claiming v drawn bit = record v { claims = bit_or v.claims bit; seen = bit_or v.seen (bit_or drawn bit) }

-- a look at word 1: the word joins the found words
abbrev pub looking : {K : Type 0} → View K → ℕ → View K
looking v word = record v { found = v.found ++ word ∷ [] }

-- taking the turn: the word joins the found words, and the view holds, with the done mask and its claims of that moment
abbrev pub holding : {K : Type 0} → View K → ℕ → View K
holding v word = record v { holds = true; known = mask word; backing = v.claims; found = v.found ++ word ∷ [] }

-- giving: the view no longer holds, and those of its claims that are done are its puts
abbrev pub giving : {K : Type 0} → View K → ℕ → View K
giving v done = record v { holds = false; puts = bit_and v.claims done }
