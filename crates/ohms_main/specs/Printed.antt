-- What the ohms' program writes, by the bytes of the ink's figures and those of a job file.
use Rattle.std.specs.Prelude.{ℕ, ◌+◌, ◌*◌, ◌≤◌, ◌≡◌, Bool, cond, not, List, [], ◌++◌, map, T, length, Float}
use Rattle.std.specs.Float.{binary64}
use Rattle.std.specs.Float.Ieee.{to_bits, is_nan}
use Rattle.io.specs.Digits.{last_digits}
use Rattle.foil_spec.specs.Lists.{range, each}
use Rattle.foil_spec.specs.Limits.{max_entries}
use Rattle.foil_spec.specs.Text.{ascii}
use Rattle.foil_spec.specs.Nets.{in_use}
use Rattle.foil_spec.specs.Ledger.{with_output}
use Rattle.foil_spec.specs.Lent.{entry_at}
use Rattle.foil_spec.specs.Job.{job_room}
use Rattle.foil_spec.specs.Calls.{ohms}
use Rattle.foil_spec.specs.Sheet.{SheetLent, sheet_call}
use Rattle.foil_spec.specs.declared.Ink.{Ink}
use Rattle.lines.specs.Lines.{item, board_line, file_line}
use Rattle.ohms.specs.Contract.{resistance_of}
use Rattle.ohms.specs.declared.Resistance.{Resistance}
use Rattle.ohms.specs.declared.Resistance.TheVariants.{Refused, Ohms}
use Rattle.job_end.specs.Left.{job_end}
use Rattle.job_end.specs.Asked.{unused, end_of}
use Rattle.job_end.specs.declared.Ended.{Ended}
use Rattle.job_end.specs.declared.Ended.TheVariants.{AtMark, ByBoard, ByFile}
use Rattle.ohms_main.specs.InkBytes.{ink_in}

-- the net is on foil 0 of a sheet, whose entries come first in the table; zeros follow them
unfoldable pub used_on : SheetLent → ℕ → Bool
used_on m net = in_use net (map (entry_at m.table) (range 0 max_entries))

-- its ohms there
unfoldable pub ohms_on : Ink → SheetLent → ℕ → Resistance
ohms_on i m net = resistance_of (sheet_call (with_output job_room 0) 0 (ohms net i) m).answer

-- the line of a net: 0 and the bits of its ohms in 16 hexadecimal digits, or the number of a refusal
unfoldable pub net_line : ℕ → Resistance → List ℕ
net_line net (Refused n) = ascii "ohms" ++ item net ++ item n ++ ascii "\n"
net_line net (Ohms x) = ascii "ohms" ++ item net ++ ascii " 0 " ++ last_digits 16 16 (to_bits binary64 x) ++ ascii "\n"

-- its line, if it is on foil 0 of a sheet
unfoldable pub line_on : Ink → SheetLent → ℕ → List ℕ
line_on i m net = cond (used_on m net) (net_line net (ohms_on i m net)) []

-- that on the foil that the job of a file leaves
unfoldable pub line_of : Ink → List ℕ → ℕ → List ℕ
line_of i bs net = line_on i (job_end bs unused).state net

-- the lines of the nets from 1 to k
unfoldable pub lines_to : List ℕ → List ℕ → ℕ → List ℕ
lines_to given bs k = each (line_of (ink_in given) bs) (map (λ (j : ℕ). j + 1) (range 0 k))

-- these lines at the job's end mark; or one line
unfoldable pub end_lines : List ℕ → Ended → List ℕ
end_lines lines (AtMark b) = lines
end_lines lines (ByBoard n) = board_line n
end_lines lines (ByFile n) = file_line n

-- what is written
unfoldable pub ohms_output : List ℕ → List ℕ → List ℕ
ohms_output given bs = end_lines (lines_to given bs 999) (end_of bs)

-- so many bytes are written, which are the lines of the nets up to k
pub record WrittenTo (given bs : List ℕ) (written k : ℕ) : Type 0 where
  pub count : written ≡ length (lines_to given bs k)
  pub few : written ≤ k * 64

-- ohms that have a bit pattern of their own
abbrev pub HasBits : Resistance → Type 0
HasBits r = (x : Float) → r ≡ Ohms x → T (not (is_nan x))
