use Rattle.std.proofs.Common.{◌∙◌, ap, sym}
use Rattle.lattice_deck.proofs.Displacements.{is_back, leads}
use Rattle.lattice_deck.proofs.joins.leads_to_itself.Goals as goal

pub returns-in-Own : goal.returns-in-Own
returns-in-Own c = ap (is_back c.args.nx c.args.ny) (sym c.in-Own.is) ∙ leads c.args.nx c.args.ny c.requires.columns c.requires.rows c.args.toward

pub returns-in-North : goal.returns-in-North
returns-in-North c = ap (is_back c.args.nx c.args.ny) (sym c.in-North.is) ∙ leads c.args.nx c.args.ny c.requires.columns c.requires.rows c.args.toward

pub returns-in-East : goal.returns-in-East
returns-in-East c = ap (is_back c.args.nx c.args.ny) (sym c.in-East.is) ∙ leads c.args.nx c.args.ny c.requires.columns c.requires.rows c.args.toward

pub returns-in-Northeast : goal.returns-in-Northeast
returns-in-Northeast c = c.is_one_cell.ensures ∙ ap (is_back c.args.nx c.args.ny) (sym c.in-Northeast.is)
    ∙ leads c.args.nx c.args.ny c.requires.columns c.requires.rows c.args.toward

pub returns-in-Southeast : goal.returns-in-Southeast
returns-in-Southeast c = c.is_one_cell-in-Southeast.ensures ∙ ap (is_back c.args.nx c.args.ny) (sym c.in-Southeast.is)
    ∙ leads c.args.nx c.args.ny c.requires.columns c.requires.rows c.args.toward
