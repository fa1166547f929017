use Rattle.std.proofs.Common.{◌≡◌, eqb}
use Rattle.std.specs.List.{dedup}
use Rattle.std.proofs.lemmas.List.Filters.{dedup_is}
use Rattle.site_rows.proofs.NumberLists.{listed_from_sort, rising_from_sort}
use Rattle.site_rows.proofs.index.sort_and_dedup.Goals as goal

pub returns : goal.returns
returns c =
    let kept = c.dedup.new.self.items in
    let sorted = c.sort_unstable.new.self.items in
    let is : kept ≡ dedup eqb sorted = dedup_is _ _ _ c.dedup.ensures.filtered in
    record {
      rising = rising_from_sort sorted kept c.sort_unstable.ensures.sorted is;
      same = λ n. listed_from_sort _ sorted kept n c.sort_unstable.ensures.permutation is;
    }
