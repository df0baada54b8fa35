-- `finding::is_blocked` says whether no strip holds the point.
use Rattle.ledger_laws.proofs.Sound.{of-sound}
use Rattle.state.proofs.Rising.{by-row-of}
use Rattle.foil.proofs.Looking.{strips-long}
use Rattle.finding.proofs.Points.{is-blocked}
use Rattle.finding.proofs.is_blocked.Goals as goal

pub locate-requires : goal.locate-requires
locate-requires c = record {
  count_in_bounds = strips-long _ _ _ c.args.point c.requires.strips_value;
  by_row = by-row-of _ (of-sound _ c.requires.strips_value);
}

pub returns : goal.returns
returns c =
    is-blocked _ _ _ _ c.requires.strips_value c.requires.x_lt_width.0 c.requires.x_lt_width.1 _ c.locate.ensures _
    c.is_none.ensures
