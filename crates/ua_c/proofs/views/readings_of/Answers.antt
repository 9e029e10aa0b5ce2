use Rattle.ua_c.proofs.Replied.{has_none, match_none}
use Rattle.ua_c.proofs.views.readings_of.Goals as goal

-- the response is none to a Read
pub without-status-requires : goal.without-status-requires
without-status-requires c =
    record {
      other = has_none c.args.body.now (match_none c.in-Ok-None.field-0 _ _ c.in-Ok-None.field-0-is c.in-Ok-None.ensures.readings) c.in-Ok.response
          c.in-Ok.ensures.response;
    }
