use Rattle.ua_channel.specs.Received.{received}
use Rattle.ua_server.proofs.Clean.{clean-by-held, not-clean}
use Rattle.ua_server.proofs.server.Server.is_clean.Goals as goal

pub returns-then-open_count-eq0 : goal.returns-then-open_count-eq0
returns-then-open_count-eq0 c = λ octets frames rest h. clean-by-held (received frames).messages rest c.open_count.result c.held.result
    (c.open_count.ensures.count octets frames rest h) (c.held.ensures.held octets frames rest h) c.if-open_count-eq0.true

pub returns-else-open_count-eq0 : goal.returns-else-open_count-eq0
returns-else-open_count-eq0 c = λ octets frames rest h. not-clean (received frames).messages rest c.open_count.result
    (c.open_count.ensures.count octets frames rest h) c.if-open_count-eq0.false
