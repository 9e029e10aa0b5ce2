-- A response that is no answer to CreateSession brings no token.
use Rattle.std.specs.Prelude.{◌≡◌, ◌≢◌, None}
use Rattle.std.proofs.Common.{refl}
use Rattle.ua_services.specs.Response.{kind_of_response}
use Rattle.ua_services.specs.declared.response.Response.{Response}
use Rattle.ua_services.specs.declared.response.Response.TheVariants.{CreateSession}
use Rattle.ua_services.specs.declared.response.ResponseKind.TheVariants.{CreateSession as CreateSessionKind}
use Rattle.ua_client.specs.Session.{token_in}
use Rattle.ua_client.specs.declared.reply.Reply.TheVariants.{Response as Responds}

pub no_token : (r : Response) → kind_of_response r ≢ CreateSessionKind → token_in (Responds r) ≡ None
no_token (CreateSession m) h = absurd (h refl)
no_token other h = refl
