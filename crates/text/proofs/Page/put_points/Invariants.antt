-- The loop keeps the lines of the points so far, one behind another, each of at most 63 bytes. None is refused, by `each_given`.
use Prim.Native.Nat.{◌+◌, ◌*◌, ◌≤◌}
use Rattle.rules.specs.Layout.{buckets_of}
use Rattle.text.specs.Text.{lines_to, longest_point, Puts}
use Rattle.text.proofs.Page.put_points.Given as goal

abbrev pub invariant-loop-number : goal.invariant-loop-number
invariant-loop-number l = (l.self.filled ≤ l.initial.self.filled + longest_point * l.number)
    × Puts l.initial.self (lines_to l.number l.kept (buckets_of l.counts l.thresholds)) l.self
