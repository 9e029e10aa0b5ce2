use Rattle.ua_opening.proofs.HeaderRead.{timeout_alone}
use Rattle.ua_opening.proofs.header.take_timeout_alone.Goals as goal

pub returns-clause-exact : goal.returns-clause-exact
returns-clause-exact g c =
    timeout_alone _ _ _ _ _ _ _ _ _ _ c.fork-ahead.ensures c.in-Ok-eq4294967295.ensures.exact c.in-Ok-eq4294967295.field-0-test c.in-Ok.ensures.exact
    c.in-Ok-eq0.ensures.exact c.in-Ok-eq0.field-0-test c.in-Ok-eq0-read_value.ensures.exact c.in-Ok-eq0-read_value.field-0-test
