-- The strips of a sound state stand by y0, since they are the strips of its layout.
use Rattle.foil_spec.specs.Foil.{free}
use Rattle.foil_spec.specs.Ledger.{strips_of}
use Rattle.foil_spec.specs.Lent.{Lent, held}
use Rattle.ledger_laws.proofs.Sound.{Sound, strips-listed}
use Rattle.strips.specs.Places.{ByRow}
use Rattle.strips.proofs.Placing.{by_row}

pub by-row-of : (m : Lent) → Sound m → ByRow m.strips m.board.strips
unfolding strips_of
by-row-of m k =
    by_row (free (held m)) (held m).width (held m).height m.strips m.board.strips (strips-listed m k)
