-- `laying::lay_in` tries the net, then the ends, and then lays between them.
use Rattle.std.proofs.Common.{rules, ap, not, ◌≡◌, Err}
use Rattle.foil.proofs.Limits.{held-table}
use Rattle.laying.proofs.Checking.{no-net, used, ends-refused, ready-to-lay}
use Rattle.laying.proofs.lay_in.Goals as goal

pub returns-then-not-net_ok : goal.returns-then-not-net_ok
returns-then-not-net_ok c =
    rw c.into.ensures
    (no-net _ _ _ _ _ _ c.requires.strips_value _ c.net_ok.ensures _ _ (ap not c.if-not-net_ok.true))

pub in_use-requires : goal.in_use-requires
in_use-requires c = (held-table _ _ _ c.requires.strips_value).len

pub returns-then-in_use : goal.returns-then-in_use
returns-then-in_use c =
    rw c.into-then-in_use.ensures
    (used _ _ _ _ _ _ c.requires.strips_value _ c.net_ok.ensures (ap not c.if-not-net_ok.false) _
    c.in_use.ensures _ _ c.if-in_use.true)

pub returns-in_err-points_refusal : goal.returns-in_err-points_refusal
returns-in_err-points_refusal c =
    let told : c.from_residual.result ≡ Err c.in_err-points_refusal.field-0.0 = search rules in
    rw told
    (ends-refused _ _ _ _ _ _ c.requires.strips_value _ c.net_ok.ensures (ap not c.if-not-net_ok.false) _
    c.in_use.ensures c.if-in_use.false _ _ _ c.in_err-points_refusal.ensures)

pub lay_between-requires : goal.lay_between-requires
lay_between-requires c = record {
  ready_to_lay = ready-to-lay _ _ _ _ _ _ c.requires.strips_value _ c.net_ok.ensures (ap not c.if-not-net_ok.false) _
      c.in_use.ensures c.if-in_use.false _ c.in_ok-points_refusal.ensures;
  limit_le_max_entries = c.requires.limit_le_max_entries;
}
