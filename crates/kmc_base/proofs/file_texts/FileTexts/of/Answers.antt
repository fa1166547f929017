use Rattle.std.proofs.Common.{sym, ap, ◌∙◌}
use Rattle.kmc_base.proofs.FilesOver.{files_over-last}
use Rattle.kmc_base.specs.Files.{files_over}
use Rattle.kmc_base.proofs.file_texts.FileTexts.of.Goals as goal

pub loop-file-preserved : goal.loop-file-preserved
loop-file-preserved c =
    rw c.set.ensures (sym (files_over-last c.loop-file.texts c.pop.new.self.items (c.in-Some.file, c.in-Some.bytes))
    ∙ (sym (ap (files_over c.loop-file.texts) c.in-Some.ensures.items) ∙ c.loop-file.invariant))
