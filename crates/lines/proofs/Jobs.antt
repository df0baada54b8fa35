-- What is written for the jobs of specs/Jobs, computed by the checker.
use mathlib.Core.Path.{refl}
use mathlib.Core.Bool.{xor}
use Rattle.foil_spec.specs.Foil.{size_ok, reach_ok, net_ok, box_ok, within, blocks, pen_rule, margin, near_edge, free_by, free}
use Rattle.foil_spec.specs.Foil.{shape_ok, entry_ok, meets, crosses, over_leg, under_patch, patch_margin}
use Rattle.foil_spec.specs.Strips.{stop_in, stop, scan, scan_at, starts, is_run, is_top, begun, strips_from}
use Rattle.foil_spec.specs.Paths.{after, between, level_free, upright_free, segment, bends, points, goings, steps_from}
use Rattle.foil_spec.specs.Paths.{shortest, first_from, first_path_to}
use Rattle.foil_spec.specs.Nets.{of_net, in_use}
use Rattle.foil_spec.specs.Ledger.{strips_of, path_of, no_path, corners_of, leg, legs_from, legs, off_foil, blocked, short}
use Rattle.foil_spec.specs.Ledger.{corner_room, too_long, is_too_fine, next, says, first, reads, pen_of, clearance_refusal}
use Rattle.foil_spec.specs.Ledger.{refusals, after_lent, settle, refusal_of, number_of, ledger_step}
use Rattle.foil_spec.specs.Job.{job_room, number, field_count, map_byte, has, fields_at, record_end, field, step_at, steps_at}
use Rattle.foil_spec.specs.Job.{as_step, record_steps, steps, is_end, record_checks}
use Rattle.foil_spec.specs.Calls.{ends_job, and_then, act_all, act_record, too_large, whole_refusals, ledger_record}
use Rattle.foil_spec.specs.Starred.{job_bytes, crossing_bytes}
use Rattle.foil_spec.specs.Text.{digits_in, decimal}
use Rattle.lines.specs.Lines.{item, corner_item, board_line, patch_line, track_refused, track_laid, lift_line, leg_line}
use Rattle.lines.specs.Lines.{strip_line, file_line}
use Rattle.lines.specs.Output.{track_in, track_line, line_of_step, lines_of_steps, reply_lines, output_from, output}
use Rattle.lines.specs.Jobs.{cut_bytes, jobs, JobsWritten}

jobs-written : JobsWritten
unfolding jobs job_bytes crossing_bytes cut_bytes
    size_ok reach_ok net_ok box_ok shape_ok entry_ok meets crosses over_leg under_patch patch_margin
    within blocks pen_rule margin near_edge free_by free
    stop_in stop scan scan_at starts is_run is_top begun strips_from
    after between level_free upright_free segment bends points goings steps_from shortest first_from first_path_to
    strips_of path_of no_path corners_of leg legs_from legs of_net in_use off_foil blocked
    short corner_room too_long is_too_fine pen_of next says first reads clearance_refusal refusals after_lent settle refusal_of
    ledger_step
    job_room number field_count map_byte has fields_at record_end field as_step step_at steps_at record_steps steps is_end
    record_checks
    ends_job and_then act_all act_record too_large whole_refusals ledger_record xor
    digits_in decimal item corner_item board_line patch_line track_refused track_laid lift_line leg_line strip_line file_line
    number_of track_in track_line line_of_step lines_of_steps reply_lines output_from output
jobs-written = refl
