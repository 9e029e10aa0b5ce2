use Rattle.std.proofs.Common.{◌≡◌, ◌∙◌, ◌<◌, ◌^◌, Some, ap, arith}
use Rattle.ua_builtin.specs.Counted.{text}
use Rattle.ua_services.specs.SessionRequests.{local_url}
use Rattle.ua_services.proofs.Words.{local_url_fits}
use Rattle.ua_services.proofs.session_requests.local_url.Goals as goal

pub returns-clause-encodable : goal.returns-clause-encodable
unfolding local_url
returns-clause-encodable c =
    let is : c.new.result ≡ Some (local_url c.args.port) = c.new.ensures ∙ ap Some c.in_ok-text.ensures.ok in
    let small : c.args.port < 2 ^ 16 = omega arith in
    ap (λ t. (text).encodable t) is ∙ local_url_fits c.args.port small
