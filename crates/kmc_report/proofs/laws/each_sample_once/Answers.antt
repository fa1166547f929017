use Rattle.kmc_report.proofs.RunSamples.{each_sample_once}
use Rattle.kmc_report.proofs.laws.each_sample_once.Goals as goal

pub returns : goal.returns
returns c = each_sample_once
