-- `slips::put::put_right` meets its contract: `io::decimal` gives the fewest digits, which fit the columns.
use Prim.Native.Nat.{◌-◌, ◌≤◌}
use native.Mathlib.Omega.{arith}
use mathlib.Core.Path.{sym}
use Rattle.list_laws.proofs.Digits.{decimal-fits}
use Rattle.slip_laws.proofs.Columns.{right-long}
use Rattle.putting.proofs.Decimals.{fewest-fits}
use Rattle.slips.proofs.Right.{blanks-long, right-put}
use Rattle.slips.proofs.put.put_right.Goals as goal

pub overflow_sub-before : goal.overflow_sub-before
overflow_sub-before c = fewest-fits _ _ _ c.requires.0 c.requires.2 c.decimal-k.ensures.len

pub slice_bounds-put_bytes-end : goal.slice_bounds-put_bytes-end
slice_bounds-put_bytes-end c = sym (blanks-long _ (omega arith))

pub put_bytes-a-requires : goal.put_bytes-a-requires
put_bytes-a-requires c =
    let fit : c.decimal-k.result ≤ c.args.width = fewest-fits _ _ _ c.requires.0 c.requires.2 c.decimal-k.ensures.len in
    omega (arith, blanks-long (c.args.width - c.decimal-k.result) (omega arith))

pub put_bytes-requires : goal.put_bytes-requires
put_bytes-requires c =
    let fit : c.decimal-k.result ≤ c.args.width = fewest-fits _ _ _ c.requires.0 c.requires.2 c.decimal-k.ensures.len in
    omega (
      arith,
      blanks-long (c.args.width - c.decimal-k.result) (omega arith),
      c.put_bytes-a.ensures.next,
      c.decimal-k.ensures.in_bounds.1,
    )

pub returns : goal.returns
returns c =
    let put =
    right-put c.decimal-k.result c.args.width c.args.n c.decimal-k.ensures.len (omega arith)
    c.put_bytes-a.ensures c.decimal-k.ensures.digits c.put_bytes.ensures in
    let long = right-long c.args.width c.args.n (decimal-fits c.args.width c.args.n c.requires.0 c.requires.2) in
    record { put = put; upper_bound = omega (arith, put.next) }
