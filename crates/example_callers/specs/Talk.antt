-- What a client does that opens a connection, begins a session, writes values, reads values, and
-- closes.
use Rattle.std.specs.Prelude.{◌∷◌, List, [], Option, Ok, ℕ}
use Rattle.ua_builtin.specs.declared.date_time.DateTime.{DateTime}
use Rattle.ua_builtin.specs.declared.node_id.NodeId.{NodeId}
use Rattle.ua_frame.specs.declared.limits.Limits.{Limits}
use Rattle.ua_structures.specs.declared.attribute.ReadValueId.{ReadValueId}
use Rattle.ua_structures.specs.declared.attribute.WriteValue.{WriteValue}
use Rattle.ua_channel.specs.Line.{Traffic}
use Rattle.ua_services.specs.SessionRequests.{read, write}
use Rattle.ua_client.specs.Calls.{CallsAll}
use Rattle.ua_client.specs.Client.{client_channel, connection_of, Closes, OpensClient}
use Rattle.ua_client.specs.Session.{BeginsSession}
use Rattle.ua_client.specs.declared.client.Client.{Client}
use Rattle.ua_client.specs.declared.reply.Reply.{Reply}

-- each of these was done over the transport in the state in which the one before it left the client
-- and the transport; the replies are those to the Write and to the Read, in the session whose
-- AuthenticationToken the server gave
pub record ExampleTalk (limits : Limits) (url : Option (List ℕ)) (moment : DateTime) (writes : List WriteValue) (reads : List ReadValueId)
    (before after : Option Traffic) (replies : List Reply) : Type 0 where
  pub opened : Client
  pub behind_open : Option Traffic
  pub opens : OpensClient limits url moment before behind_open (Ok opened)
  pub token : NodeId
  pub serving : Client
  pub behind_session : Option Traffic
  pub begins : BeginsSession moment (connection_of opened) (connection_of serving) behind_open behind_session (Ok token)
  pub called : Client
  pub behind_calls : Option Traffic
  pub calls : CallsAll (λ all. all) (write token moment 1 writes ∷ read token moment 2 reads ∷ []) (connection_of serving) (connection_of called) behind_session
      behind_calls (Ok replies)
  pub closes : Closes {A = Unit {0}} moment (client_channel called) behind_calls after (Ok tt)
