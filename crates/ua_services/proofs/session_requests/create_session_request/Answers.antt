use Rattle.std.proofs.Common.{rules}
use Rattle.std.specs.Prelude.{IsTrue}
use Rattle.ua_opening.specs.Field.{string}
use Rattle.ua_opening.specs.Header.{request_header}
use Rattle.ua_services.proofs.Asked.{create_session_fits}
use Rattle.ua_services.proofs.Words.{client_uri_fits, name_fits, null_id_fits}
use Rattle.ua_services.proofs.session_requests.create_session_request.Goals as goal

pub returns-clause-encodable : goal.returns-clause-encodable
returns-clause-encodable c = λ u.
    let uri : IsTrue (string.encodable c.in_ok-uri.uri) = rw c.in_ok-uri.ensures client_uri_fits in
    let name : IsTrue (string.encodable c.in_ok-name.name) = rw c.in_ok-name.ensures name_fits in
    let session : IsTrue (string.encodable c.in_ok-session.session) = rw c.in_ok-session.ensures name_fits in
    let header : IsTrue (request_header.encodable c.new-header.result) = search (rules, null_id_fits) in
    create_session_fits c.new.result (c.new.ensures.encodable header (c.client-client.ensures.encodable uri name) u session)
