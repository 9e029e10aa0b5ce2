use Rattle.std.proofs.Common.{◌≡◌, true}
use Rattle.ua_concurrent.proofs.conversation.Conversation.finish.Goals as goal

pub returns-then-is_clean : goal.returns-then-is_clean
returns-then-is_clean g c = rw (← c.self.view_is) (λ octets frames rest h. (c.is_clean.ensures octets frames rest h).0 c.if-is_clean.true)

pub returns-else-is_clean : goal.returns-else-is_clean
returns-else-is_clean g c = rw (← c.self.view_is) (λ octets frames rest h clean.
    let yes : c.is_clean.result ≡ true = (c.is_clean.ensures octets frames rest h).1 clean in
    let no = c.if-is_clean.false in
    cc)
