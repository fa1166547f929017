use Rattle.std.proofs.Common.{◌≡◌}
use Rattle.std.specs.List.{dedup}
use Rattle.std.proofs.lemmas.List.Filters.{dedup_is}
use Rattle.lattice_core.proofs.Sorting.{same_site, rising-from_sort, is_listed-from_sort}
use Rattle.lattice_core.proofs.site_list.sort_sites.Goals as goal

pub returns : goal.returns
returns c =
    let kept = c.dedup.new.self.items in
    let sorted = c.sort_unstable.new.self.items in
    let is : kept ≡ dedup same_site sorted = dedup_is _ _ _ c.dedup.ensures.filtered in
    record {
      rising = rising-from_sort sorted kept c.sort_unstable.ensures.sorted is;
      same = λ s. is_listed-from_sort _ sorted kept s c.sort_unstable.ensures.permutation is;
    }
