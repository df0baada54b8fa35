-- `booking::book_path` copies the table, appends the legs, and takes the rows over.
use native.Mathlib.Omega.{arith}
use mathlib.Core.Path.{sym}
use lib.Seq.{length-take-le}
use Rattle.booking.proofs.Booking.{lists-long, sums, small, booked-table, booked-again, booked-is}
use Rattle.booking.proofs.book_path.Goals as goal

pub slice_bounds-copy_from_slice-end-2 : goal.slice_bounds-copy_from_slice-end-2
slice_bounds-copy_from_slice-end-2 c = (lists-long _ _ _ _ _ _ c.requires).0

pub slice_bounds-copy_from_slice-end-3 : goal.slice_bounds-copy_from_slice-end-3
slice_bounds-copy_from_slice-end-3 c =
    sym (length-take-le 640 c.args.table.now (lists-long _ _ _ _ _ _ c.requires).0)

pub copy_from_slice-requires : goal.copy_from_slice-requires
copy_from_slice-requires c = sym (length-take-le 640 c.args.table.now (lists-long _ _ _ _ _ _ c.requires).0)

pub append_legs-all-requires : goal.append_legs-all-requires
append_legs-all-requires c =
    let fits = sums _ _ _ _ _ _ c.requires in
    record { le_k = (fits.0, fits.1, fits.2, omega arith); corners = small _ _ _ _ _ _ c.requires }

pub take_over-requires : goal.take_over-requires
take_over-requires c = record {
  table = booked-table _ _ _ _ _ _ c.requires _ _ _ c.copy_from_slice.ensures.after c.append_legs-all.ensures;
  rows_value = booked-again _ _ _ _ _ _ c.requires _ _ _ c.copy_from_slice.ensures.after c.append_legs-all.ensures;
  table_size_in_bounds = lists-long _ _ _ _ _ _ c.requires;
}

pub returns : goal.returns
returns c = booked-is _ _ _ _ _ _ c.requires _ _ _ c.copy_from_slice.ensures.after c.append_legs-all.ensures
    c.take_over.new.table c.take_over.new.strips c.take_over.result c.take_over.ensures
