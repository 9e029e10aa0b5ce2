-- Replies of a channel that was asked.
use Rattle.std.specs.Prelude.{◌≡◌, ℕ, List, [], ◌∷◌, ◌++◌, Option, None, Some}
use Rattle.std.proofs.Common.{sym, ◌∙◌, ap, subst}
use Rattle.ua_builtin.specs.declared.status_code.StatusCode.{StatusCode}
use Rattle.ua_builtin.specs.declared.date_time.DateTime.{DateTime}
use Rattle.ua_chunk.specs.declared.lane.Lane.{Lane}
use Rattle.ua_frame.specs.Run.{Rules}
use Rattle.ua_services.specs.Response.{response}
use Rattle.ua_channel_laws.proofs.Replies.{reply_goes}
use Rattle.ua_channel.specs.Agreement.{Agreement, lane_of}
use Rattle.ua_channel.specs.Received.{received}
use Rattle.ua_channel.specs.ServerPlaces.{agreed_by}
use Rattle.ua_channel.specs.ServerSends.{IsReply, RepliesGo}
use Rattle.ua_channel.specs.ServerStands.{limits_of, channel_of, next_of, rules_of, GoesTelling, ChannelStands as Holds}
use Rattle.ua_channel.specs.ServerTold.{Told, Asked}
use Rattle.ua_channel.specs.declared.server.ServerChannel.{ServerChannel}
use Rattle.ua_server.specs.Reply.{answered}
use Rattle.ua_chunk.specs.Cutting.{cut_refusal}
use Rattle.ua_server.proofs.SentAs.{with-code}
use Rattle.ua_server.specs.Requests.{code_by, request_answered}
use Rattle.ua_server.specs.Said.{lane_at}
use Rattle.ua_server.specs.State.{State}
use Rattle.ua_server.specs.declared.watch.AnsweredRequest.{AnsweredRequest}
use Rattle.ua_server.specs.Stepping.{IsReplyAt}

-- ---- a channel that replied

pub rules-same : (x y : ServerChannel) → limits_of y ≡ limits_of x → channel_of y ≡ channel_of x → rules_of y ≡ rules_of x
rules-same x y limits channel = rw (limits, channel)

-- it stands where it stood
pub telling-on : (x y : ServerChannel) (octets : List ℕ) (before : List Told) (e : Told) (g : GoesTelling x octets before e) → limits_of y ≡ limits_of x
    → channel_of y ≡ channel_of x
    → Holds y octets (g.frames ++ g.frame ∷ []) [] → GoesTelling y octets before e
telling-on x y octets before e g limits channel stands =
    let same = rules-same x y limits channel in
    record {
      frames = g.frames;
      frame = g.frame;
      stands = stands;
      told_is = rw same g.told_is;
      tells = ap (λ (R : Rules Told ℕ). R.tells g.frames g.frame) same ∙ g.tells;
    }

reply-at : (channel token : ℕ) (agreement : Option Agreement) (a : Agreement) (lane : Lane) (body : List ℕ) (number id : ℕ) (octets : List ℕ) (next : ℕ)
    → agreement ≡ Some a → lane ≡ lane_of channel token a → IsReply lane body number id octets next
    → IsReplyAt channel token agreement body number id octets next
reply-at channel token agreement a lane body number id octets next e l r =
    subst (λ (o : Option Agreement). IsReplyAt channel token o body number id octets next) (sym e)
    (subst (λ (x : Lane). IsReply x body number id octets next) l r)

-- it replied to what was agreed
pub replied-there : (x : ServerChannel) (octets : List ℕ) (before : List Told) (id token : ℕ) (message : List ℕ)
    (g : GoesTelling x octets before (Asked id token message)) (lane : Lane) (body out : List ℕ) (next : ℕ)
    → RepliesGo (limits_of x) (channel_of x) (received (g.frames ++ g.frame ∷ [])) lane → IsReply lane body (next_of x) id out next
    → IsReplyAt (channel_of x) token (agreed_by before) body (next_of x) id out next
replied-there x octets before id token message g lane body out next goes reply =
    let there = reply_goes x octets before id token message (g.frames ++ g.frame ∷ []) [] lane g g.stands goes in
    reply-at (channel_of x) token (agreed_by before) there.0 lane body (next_of x) id out next there.1 there.2 reply

-- what is told of a message, by the reply that goes there
pub noted-there : (x : ServerChannel) (octets : List ℕ) (before : List Told) (id token : ℕ) (message : List ℕ)
    (g : GoesTelling x octets before (Asked id token message)) (lane : Lane) (s : State) (moment : DateTime) (body : List ℕ) (request sent : AnsweredRequest)
    → RepliesGo (limits_of x) (channel_of x) (received (g.frames ++ g.frame ∷ [])) lane
    → ((code : StatusCode) → code_by (cut_refusal lane body) code ≡ code_by (cut_refusal lane (response.canonical (answered s moment message).1)) code)
    → request ≡ request_answered None s moment message
    → sent ≡ with-code request (code_by (cut_refusal lane body) request.code)
    → sent ≡ request_answered (lane_at (channel_of x) token (agreed_by before)) s moment message
noted-there x octets before id token message g lane s moment body request sent goes is asked as_sent =
    let there = reply_goes x octets before id token message (g.frames ++ g.frame ∷ []) [] lane g g.stands goes in
    let r = (answered s moment message).1 in
    let at : Option Lane → AnsweredRequest = λ o. request_answered o s moment message in
    let going : Lane → Option Lane = λ l. Some l in
    let agreed : Option Agreement → Option Lane = λ a. lane_at (channel_of x) token a in
    as_sent
    ∙ (rw (is request.code, asked) (ap at (ap going there.2 ∙ sym (ap agreed there.1))))
