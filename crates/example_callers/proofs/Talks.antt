-- What was done over a line is done in a client's conversation.
use Rattle.std.specs.Prelude.{◌≡◌, List, Option, Ok}
use Rattle.std.proofs.Common.{subst}
use Rattle.ua_channel.specs.Line.{Traffic}
use Rattle.ua_services.specs.declared.request.Request.{Request}
use Rattle.ua_client.specs.Calls.{CallsAll}
use Rattle.ua_client.specs.declared.connection.Connection.{Connection}
use Rattle.ua_client.specs.declared.reply.Reply.{Reply}

-- the replies as a list, to requests that are these
pub as_list : {A : Type 0} (view : A → List Reply) (r : A) (asked requests : List Request) (old new : Connection) (before after : Option Traffic)
    → asked ≡ requests → CallsAll view asked old new before after (Ok r) → CallsAll (λ (all : List Reply). all) requests old new before after (Ok (view r))
as_list view r asked requests old new before after same h =
    subst (λ (qs : List Request). CallsAll (λ (all : List Reply). all) qs old new before after (Ok (view r))) same
    (record { sent = h.sent; moves = h.moves; same = h.same; answers = h.answers; stops = h.stops })
