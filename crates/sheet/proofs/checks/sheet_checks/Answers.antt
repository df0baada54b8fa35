-- `sheet::checks::sheet_checks` answers 23, 12 for either list, 13, or that none of these applies.
use mathlib.Core.Path.{refl}
use Rattle.sheet.proofs.Checking.{no-foil, short-table, short-strips, bad-counts, good-counts}
use Rattle.sheet.proofs.checks.sheet_checks.Goals as goal

pub returns-then-k-ge-FOILS : goal.returns-then-k-ge-FOILS
returns-then-k-ge-FOILS c = rw c.into.ensures (no-foil _ _ c.if-k-ge-FOILS.true)

pub returns-then-table-lt-SHEET_SIZE : goal.returns-then-table-lt-SHEET_SIZE
returns-then-table-lt-SHEET_SIZE c =
    rw c.into-then-table-lt-SHEET_SIZE.ensures
    (short-table _ _ c.if-k-ge-FOILS.false c.if-table-lt-SHEET_SIZE.true)

pub returns-then-strips-lt-STRIPS_SIZE : goal.returns-then-strips-lt-STRIPS_SIZE
returns-then-strips-lt-STRIPS_SIZE c =
    rw c.into-then-strips-lt-STRIPS_SIZE.ensures
    (short-strips _ _ c.if-k-ge-FOILS.false c.if-table-lt-SHEET_SIZE.false c.if-strips-lt-STRIPS_SIZE.true)

pub returns-then-not-counts_ok : goal.returns-then-not-counts_ok
returns-then-not-counts_ok c =
    rw c.into-then-not-counts_ok.ensures
    (bad-counts _ _ c.if-k-ge-FOILS.false c.if-table-lt-SHEET_SIZE.false c.if-strips-lt-STRIPS_SIZE.false _
    c.counts_ok.ensures (rw c.if-not-counts_ok.true refl))

pub returns : goal.returns
returns c =
    good-counts _ _ c.if-k-ge-FOILS.false c.if-table-lt-SHEET_SIZE.false c.if-strips-lt-STRIPS_SIZE.false _
    c.counts_ok.ensures (rw c.if-not-counts_ok.false refl)
