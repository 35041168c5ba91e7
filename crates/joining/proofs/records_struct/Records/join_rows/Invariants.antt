use Rattle.std.proofs.Common.{◌+◌, ◌≤◌, length, take, drop}
use Rattle.joining.specs.Joining.{joined_paths}
use Rattle.joining.specs.Rows.{paths_of}
use Rattle.joining.specs.Tables.{used, record_of, Changes}
use Rattle.joining.proofs.records_struct.Records.join_rows.Given as goal

abbrev pub invariant-loop-row : goal.invariant-loop-row
invariant-loop-row l =
    record {
      so_far : Changes l.initial.self l.self l.«module» (joined_paths (record_of l.initial.self l.«module») (paths_of l.«module» (take l.row-index l.rows)));
      room : length (paths_of l.«module» (drop l.row-index l.rows)) + used l.self ≤ l.self.limit;
    }
