use Rattle.std.proofs.Common.{◌-◌}
use Rattle.ua_builtin.specs.Format.{Behind}
use Rattle.ua_c.proofs.Seen.{SeenSo}
use Rattle.ua_c.proofs.views.view_each.Given as goal

-- what was seen so far, and what is left stands behind it
abbrev pub invariant-loop : goal.invariant-loop
invariant-loop l = record {
  seen : SeenSo l.body l.count (l.count - l.counter) l.fn.source l.source l.readings.items;
  behind : Behind l.body l.source;
}
