-- `finding::points_refusal` answers 7 for either point, then 8 for either, then that both are free.
use Rattle.finding.proofs.Points.{on-foil, s-off, t-off, s-blocked, t-blocked, both-free}
use Rattle.finding.proofs.points_refusal.Goals as goal
use Rattle.finding.proofs.points_refusal.Goals.{then-off_foil-via-then-off_foil}
use Rattle.finding.proofs.points_refusal.Goals.{then-off_foil-via-else-off_foil+then-off_foil-2}
use Rattle.finding.proofs.points_refusal.Goals.{then-is_blocked-via-then-is_blocked}
use Rattle.finding.proofs.points_refusal.Goals.{then-is_blocked-via-else-is_blocked+then-is_blocked-2}

pub returns-then-off_foil : goal.returns-then-off_foil
returns-then-off_foil c =
    rw c.into.ensures
    (elim c.then-off_foil.branch [
      | then-off_foil-via-then-off_foil w ↦ s-off _ _ _ _ _ _ c.off_foil.ensures w.if-off_foil.true
      | then-off_foil-via-else-off_foil+then-off_foil-2 w ↦
          t-off _ _ _ _ _ _ c.off_foil.ensures w.if-off_foil.false _ w.off_foil-else-off_foil.ensures
          w.if-off_foil-2.true
    ])

pub is_blocked-requires : goal.is_blocked-requires
is_blocked-requires c =
    record { strips_value = c.requires; x_lt_width = on-foil _ _ _ c.off_foil.ensures c.if-off_foil.false }

pub is_blocked-requires-else-is_blocked : goal.is_blocked-requires-else-is_blocked
is_blocked-requires-else-is_blocked c = record {
  strips_value = c.requires;
  x_lt_width = on-foil _ _ _ c.off_foil-else-off_foil.ensures c.if-off_foil-2.false;
}

pub returns-then-is_blocked : goal.returns-then-is_blocked
returns-then-is_blocked c =
    rw c.into-then-is_blocked.ensures
    (elim c.then-is_blocked.branch [
      | then-is_blocked-via-then-is_blocked w ↦
          s-blocked _ _ _ _ _ _ c.off_foil.ensures c.if-off_foil.false _ c.off_foil-else-off_foil.ensures
          c.if-off_foil-2.false _ c.is_blocked.ensures w.if-is_blocked.true
      | then-is_blocked-via-else-is_blocked+then-is_blocked-2 w ↦
          t-blocked _ _ _ _ _ _ c.off_foil.ensures c.if-off_foil.false _ c.off_foil-else-off_foil.ensures
          c.if-off_foil-2.false _ c.is_blocked.ensures w.if-is_blocked.false _ w.is_blocked-else-is_blocked.ensures
          w.if-is_blocked-2.true
    ])

pub returns : goal.returns
returns c =
    both-free _ _ _ _ _ _ c.off_foil.ensures c.if-off_foil.false _ c.off_foil-else-off_foil.ensures
    c.if-off_foil-2.false _ c.is_blocked.ensures c.if-is_blocked.false _ c.is_blocked-else-is_blocked.ensures
    c.if-is_blocked-2.false _
