-- Document 01's limits, and the numbers that so many places are in flat lists.
use Rattle.std.specs.Prelude.{ℕ}

-- a table holds so many entries, of five numbers each
abbrev pub max_entries : ℕ
max_entries = 128

abbrev pub table_size : ℕ
table_size = 640

-- a strip list holds so many strips, of four numbers each
abbrev pub max_strips : ℕ
max_strips = 4096

abbrev pub strips_size : ℕ
strips_size = 16384

-- a report of nets has so many places at least
abbrev pub report_places : ℕ
report_places = 128

-- a side of a foil is at most so long
abbrev pub max_side : ℕ
max_side = 4096

-- document 01's reach is at most so far, and so is a pen's gap
abbrev pub max_reach : ℕ
max_reach = 15

-- a job file has at most so many bytes
abbrev pub max_bytes : ℕ
max_bytes = 60000

-- the job program lends so many corner places, of two numbers each
abbrev pub corner_places : ℕ
corner_places = 8192

-- a list of nets to lay has at most so many
abbrev pub max_wishes : ℕ
max_wishes = 40

-- a sheet has so many foils, and holds so many entries, of five numbers each; each foil is sure of so many
abbrev pub sheet_foils : ℕ
sheet_foils = 8

abbrev pub sheet_entries : ℕ
sheet_entries = 512

abbrev pub sheet_size : ℕ
sheet_size = 2560

abbrev pub sure_entries : ℕ
sure_entries = 32
