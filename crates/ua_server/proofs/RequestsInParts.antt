-- The requests that are answered of what is told, with moments that come later.
use Rattle.std.specs.Prelude.{◌≡◌, ℕ, ◌≤◌, List, [], ◌∷◌, ◌++◌, length, Option, Some, None}
use Rattle.std.proofs.Common.{refl, ◌∙◌, ap, arith}
use Rattle.ua_builtin.specs.declared.date_time.DateTime.{DateTime}
use Rattle.ua_channel.specs.Agreement.{Agreement}
use Rattle.ua_channel.specs.ServerTold.{Told, Agreed, Opened, Asked, GaveUp, Closed}
use Rattle.ua_server.specs.Requests.{request_at, with_first, requests_of, requests_answered}
use Rattle.ua_server.specs.Said.{Course, start, with_more, say, times_used_by, used_in}
use Rattle.ua_server.specs.State.{State}
use Rattle.ua_server.specs.declared.watch.AnsweredRequest.{AnsweredRequest}
use Rattle.ua_server.proofs.SaidInParts.{course, uses-first, enough-left, say-more}

pub first-append : (o : Option AnsweredRequest) (xs ys : List AnsweredRequest) → with_first o (xs ++ ys) ≡ with_first o xs ++ ys
first-append None xs ys = refl
first-append (Some x) xs ys = refl

-- ---- with moments that come later

request-more : (channel : ℕ) (s : State) (n : ℕ) (ms : List DateTime) (a : Option Agreement) (more : List DateTime) (t : Told) → times_used_by t ≤ length ms
    → request_at channel (with_more (course s n ms a) more) t ≡ request_at channel (course s n ms a) t
request-more channel s n ms a more (Agreed g) h = refl
request-more channel s n ms a more (Opened id handle token lifetime) h = refl
request-more channel s n [] a more (Asked id token octets) h = absurd (omega (arith, h))
request-more channel s n (m ∷ ms) a more (Asked id token octets) h = refl
request-more channel s n ms a more (GaveUp id) h = refl
request-more channel s n ms a more Closed h = refl

requests_of-more : (channel : ℕ) (c : Course) (more : List DateTime) (told : List Told) → used_in told ≤ length c.moments
    → requests_of channel (with_more c more) told ≡ requests_of channel c told
requests_of-more channel c more [] h = refl
requests_of-more channel c more (t ∷ told) h =
    let enough = uses-first t told (length c.moments) h in
    let one = say-more channel c.state c.number c.moments c.agreement more t enough in
    ap (λ (p : List ℕ × Course). with_first (request_at channel (with_more c more) t) (requests_of channel p.1 told)) one
    ∙ (ap (λ (r : List AnsweredRequest). with_first (request_at channel (with_more c more) t) r)
    (requests_of-more channel (say channel c t).1 more told (enough-left channel c t told h))
    ∙ ap (λ (o : Option AnsweredRequest). with_first o (requests_of channel (say channel c t).1 told))
    (request-more channel c.state c.number c.moments c.agreement more t enough))

pub requests-more : (channel : ℕ) (s : State) (told : List Told) (moments more : List DateTime) → used_in told ≤ length moments
    → requests_answered channel s told (moments ++ more) ≡ requests_answered channel s told moments
unfolding requests_answered
requests-more channel s told moments more h = requests_of-more channel (start s moments) more told h
