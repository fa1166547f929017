-- The values of a mechanism file as they are read, seen in their text.
use Rattle.std.specs.Prelude.{ℕ, ℤ, List, map}
use Rattle.std.specs.Option.{option_map}
use Rattle.std.specs.declared.alloc.Global.{Global}
use Rattle.std.specs.declared.vec.Vec.{Vec}
use Rattle.dec_text.specs.Lines.{Run}
use Rattle.dec_text.specs.Spans.{run_at}
use Rattle.dec_text.specs.declared.lines.Span.{Span}
use Rattle.deck_shape.specs.Names.{name_at}
use Rattle.deck_shape.specs.declared.name.Name.{Name}
use Rattle.deck_words.specs.Faults.{value_map}
use Rattle.mechanism_deck.specs.Changes.{GasWords}
use Rattle.mechanism_deck.specs.Parts.{MechanismValues}
use Rattle.mechanism_deck.specs.Steps.{BodyValues, CommonValues, StepValues, VariantValues}
use Rattle.mechanism_deck.specs.declared.body.Body.{Body}
use Rattle.mechanism_deck.specs.declared.part.MechanismPart.{MechanismPart}
use Rattle.mechanism_deck.specs.declared.part.StepPart.{StepPart}
use Rattle.mechanism_deck.specs.declared.variants.CommonWords.{CommonWords}
use Rattle.mechanism_deck.specs.declared.variants.Variant.{Variant}
use Rattle.pattern_rows.specs.Listings.{Listing}
use Rattle.pattern_rows.specs.Views.{state_at}

-- two words in a text
abbrev pub pair_at : List ℕ → Span × Span → Run × Run
pair_at text pair = (run_at text pair.0, run_at text pair.1)

-- a change of a gas species in its text
abbrev pub change_at : List ℕ → Name × ℤ → GasWords
change_at text change = (name_at text change.0, change.1)

-- what all variants of a step have in common, in its text
abbrev pub body_at : List ℕ → Body → BodyValues
body_at text body = record {
  name = name_at text body.name;
  reversible = body.reversible;
  gas = map (change_at text) body.gas.items;
  sites = body.sites;
  edges = body.edges.items;
  before = map (state_at text) body.before.items;
  after = map (state_at text) body.after.items;
  initial_line = body.initial_line;
  final_line = body.final_line;
}

-- what a step states for its variants, in its text
abbrev pub common_at : List ℕ → CommonWords → CommonValues
common_at text common = record {
  types = value_map (λ list. map (name_at text) list.items) common.types;
  pre_expon = common.pre_expon;
  pe_ratio = common.pe_ratio;
  activation = common.activation;
  proximity = common.proximity;
}

-- what a variant says in its text
abbrev pub variant_at : List ℕ → Variant → VariantValues
variant_at text variant = record {
  name = option_map (name_at text) variant.name;
  types = map (name_at text) variant.types.items;
  pre_expon = variant.pre_expon;
  pe_ratio = variant.pe_ratio;
  activation = variant.activation;
  proximity = variant.proximity;
}

-- what a step says in its text
abbrev pub step_at : List ℕ → StepPart → StepValues
step_at text step = record {
  body = record {
    name = name_at text step.name;
    reversible = step.reversible;
    gas = map (change_at text) step.gas;
    sites = step.sites;
    edges = step.edges;
    before = map (state_at text) step.before;
    after = map (state_at text) step.after;
    initial_line = step.initial_line;
    final_line = step.final_line;
  };
  variant = record {
    name = option_map (name_at text) step.variant;
    types = map (name_at text) step.types;
    pre_expon = step.pre_expon;
    pe_ratio = step.pe_ratio;
    activation = step.activation;
    proximity = step.proximity;
  };
}

-- what some steps say in their text
abbrev pub steps_at : List ℕ → List StepPart → List StepValues
steps_at text steps = map (step_at text) steps

-- what a part of a deck says in its text
abbrev pub values_at : List ℕ → MechanismPart → MechanismValues
values_at text part = record { steps = steps_at text part.steps; type_words = map (name_at text) part.type_words }

-- steps so far, and the body of those that follow, as they are read
abbrev pub listing_at : List ℕ → Vec StepPart Global × Body → Listing StepValues BodyValues
listing_at text listing = (steps_at text listing.0.items, body_at text listing.1)
