-- How many samples were given of an output after one more was given of one.
use Rattle.std.proofs.Common.{◌≡◌, ◌≢◌, ◌+◌, refl}
use Rattle.kmc_base.specs.declared.ids.OutId.{OutId}
use Rattle.kmc_base.specs.declared.ids.OutId.TheVariants.{History, Procstat, Specnum}
use Rattle.kmc_report.specs.Sampler.{given_of, one_more}
use Rattle.kmc_report.specs.declared.sampler.Given.{Given}

pub given-same : (given : Given) (out : OutId) → given_of (one_more given out) out ≡ given_of given out + 1
given-same given History = refl
given-same given Procstat = refl
given-same given Specnum = refl

pub given-other : (given : Given) (out other : OutId) → other ≢ out → given_of (one_more given out) other ≡ given_of given other
given-other given History History ne = absurd (ne refl)
given-other given History Procstat ne = refl
given-other given History Specnum ne = refl
given-other given Procstat History ne = refl
given-other given Procstat Procstat ne = absurd (ne refl)
given-other given Procstat Specnum ne = refl
given-other given Specnum History ne = refl
given-other given Specnum Procstat ne = refl
given-other given Specnum Specnum ne = absurd (ne refl)
