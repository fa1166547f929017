-- What a contract sees of a queue.
use Rattle.std.specs.Prelude.{ℕ, List, []}
use Rattle.kmc_base.specs.declared.entry.Entry.{Entry}

-- how many sites the lattice has, and the entries in rising order of their codes
pub record Queue : Type 0 where
  pub sites : ℕ
  pub entries : List Entry

-- no entry at any of so many sites
abbrev pub empty_queue : ℕ → Queue
empty_queue sites = record { sites = sites; entries = [] }

-- the same queue, but with these entries
abbrev pub with_entries : Queue → List Entry → Queue
with_entries queue entries = record { sites = queue.sites; entries = entries }
