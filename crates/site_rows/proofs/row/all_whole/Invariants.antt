use Rattle.std.proofs.Common.{◌≡◌, ◌++◌, drop, map}
use Rattle.std.specs.Option.{option_map}
use Rattle.dec_text.specs.Spans.{bytes_at}
use Rattle.site_rows.specs.SiteRows.{all_whole}
use Rattle.site_rows.proofs.row.all_whole.Given as goal

-- the numbers so far, and those that are left, are all of them
abbrev pub invariant-loop-word : goal.invariant-loop-word
invariant-loop-word l =
    option_map (λ ns. l.numbers.items ++ ns) (all_whole (map (bytes_at l.bytes) (drop l.word-index l.words)))
    ≡ all_whole (map (bytes_at l.bytes) l.words)
