use Rattle.std.proofs.Common.{◌≡◌, ◌∙◌, ◌-◌, sym, ap, arith, drop, get_or, length, length-drop, map, take}
use Rattle.std.specs.Option.{option_map}
use Rattle.std.specs.Result.{result_ok}
use Rattle.std.proofs.lemmas.List.{take_all}
use Rattle.dec_text.specs.Spans.{bytes_at, run_at}
use Rattle.dec_text.specs.Wholes.{whole_number}
use Rattle.dec_text.specs.declared.lines.Span.{Span}
use Rattle.site_rows.specs.SiteRows.{is_either_out_of_range, neighbours_of, row_made}
use Rattle.site_rows.proofs.RowWords.{long_row, short_row}
use Rattle.site_rows.proofs.row.row_of.Goals as goal

pub returns-in_default : goal.returns-in_default
returns-in_default c = sym (short_row c.args.bytes.now c.args.line c.args.words.now (omega arith))

pub returns : goal.returns
returns c =
    let text = c.args.bytes.now in
    let words = c.args.words.now in
    let line = c.args.line in
    let none : Span = record { start = 0; end = 0 } in
    let others = map (bytes_at text) (drop 5 words) in
    let whole : take (length words - 5) (drop 5 words) ≡ drop 5 words = take_all (length words - 5) (drop 5 words) (omega (
      arith,
      length-drop 5
          words,
    )) in
    let site : c.ok-site.result ≡ result_ok (whole_number (bytes_at text (get_or words 0 none))) =
    c.ok-site.ensures.value ∙ ap result_ok (c.read_whole-2.ensures ∙ ap whole_number c.bytes-4.ensures) in
    let past : c.is_either_out_of_range-past.result
    ≡ is_either_out_of_range (bytes_at text (get_or words 1 none)) (bytes_at text (get_or words 2 none)) =
    cc (c.is_either_out_of_range-past.ensures, c.bytes.ensures, c.bytes-2.ensures) in
    let count : c.ok-count.result ≡ result_ok (whole_number (bytes_at text (get_or words 4 none))) =
    c.ok-count.ensures.value ∙ ap result_ok (c.read_whole.ensures ∙ ap whole_number c.bytes-3.ensures) in
    let type_word = run_at text (get_or words 3 none) in
    c.row_made.ensures text
    ∙ ap (λ s. row_made line type_word s c.is_either_out_of_range-past.result (option_map (λ ns. ns.items) c.in_ok-neighbours.neighbours)) site
    ∙ ap (λ p. row_made line type_word (result_ok (whole_number (bytes_at text (get_or words 0 none)))) p
    (option_map (λ ns. ns.items) c.in_ok-neighbours.neighbours)) past
    ∙ ap (row_made line type_word (result_ok (whole_number (bytes_at text (get_or words 0 none))))
    (is_either_out_of_range (bytes_at text (get_or words 1 none)) (bytes_at text (get_or words 2 none))))
    (c.in_ok-neighbours.ensures
    ∙ ap (λ n. neighbours_of n (map (bytes_at text) (take (length words - 5) (drop 5 words)))) count
    ∙ ap (λ ws. neighbours_of (result_ok (whole_number (bytes_at text (get_or words 4 none)))) (map (bytes_at text) ws)) whole)
    ∙ sym (long_row text line words none (omega arith))
