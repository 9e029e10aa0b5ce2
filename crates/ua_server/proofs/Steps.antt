-- What is said and left, a step further.
use Rattle.std.specs.Prelude.{◌≡◌, ℕ, zero, suc, ◌+◌, ◌≤◌, ◌<◌, IsTrue, List, [], ◌∷◌, ◌++◌, replicate, take, length, Option, None, Some}
use Rattle.std.specs.List.{flat_map}
use Rattle.std.proofs.Common.{refl, sym, ◌∙◌, ap, subst, append-nil, length-append, arith}
use Rattle.ua_builtin.specs.declared.date_time.DateTime.{DateTime}
use Rattle.ua_frame.specs.Run.{End, Going, Stopped, Over}
use Rattle.ua_services.specs.Response.{response}
use Rattle.ua_channel_laws.proofs.ServerReadsOnce.{goes_behind}
use Rattle.ua_channel.specs.Agreement.{Agreement}
use Rattle.ua_channel.specs.Received.{latest_behind}
use Rattle.ua_channel.specs.ServerPlaces.{agreements_in, agreed_by}
use Rattle.ua_channel.specs.ServerSends.{AreSent, counted_by}
use Rattle.ua_channel.specs.ServerStands.{channel_of, next_of, Goes, GoesTelling, ClosedAt, RefusedAt}
use Rattle.ua_channel.specs.ServerTold.{Told, Agreed, Opened, Asked, GaveUp, Closed}
use Rattle.ua_channel.specs.declared.server.ServerChannel.{ServerChannel}
use Rattle.ua_server.specs.Reply.{answered}
use Rattle.ua_server.specs.Said.{Course, start, with_more, say, said_of, course_after, last_words, output_of, state_after, used_in, is_answered, lane_at}
use Rattle.ua_server.specs.State.{State}
use Rattle.ua_server.specs.Requests.{request_at, request_answered}
use Rattle.ua_server.specs.Stepping.{IsReplyAt, given_up, ServerStands, times_of_answers, StepCloses, StepGoes, StepRefuses}
use Rattle.ua_server.specs.declared.watch.AnsweredRequest.{AnsweredRequest}
use Rattle.ua_server.proofs.SaidInParts.{used_in-append, left_by-uses, left-append, said-append, left-more, said-more}

-- ---- messages that were given up

quiet-by : (channel : ℕ) (c : Course) (ids : List ℕ) → course_after channel c (given_up ids) ≡ c
quiet-by channel c [] = refl
quiet-by channel c (id ∷ ids) = quiet-by channel c ids

quiet-of : (channel : ℕ) (c : Course) (ids : List ℕ) → said_of channel c (given_up ids) ≡ []
quiet-of channel c [] = refl
quiet-of channel c (id ∷ ids) = quiet-of channel c ids

none-used : (ids : List ℕ) → used_in (given_up ids) ≡ 0
none-used [] = refl
none-used (id ∷ ids) = let rest = none-used ids in omega (arith, rest)

pub left-quiet : (channel : ℕ) (first : State) (told : List Told) (ids : List ℕ) (ms : List DateTime) → state_after channel first (told ++ given_up ids) ms
    ≡ state_after channel first told ms
left-quiet channel first told ids ms = left-append channel first told (given_up ids) ms ∙ quiet-by channel (state_after channel first told ms) ids

pub said-quiet : (channel : ℕ) (first : State) (told : List Told) (ids : List ℕ) (ending : End ℕ) (ms : List DateTime)
    → output_of channel first (told ++ given_up ids) ending ms ≡ output_of channel first told Going ms ++ last_words ending
said-quiet channel first told ids ending ms =
    said-append channel first told (given_up ids) ending ms
    ∙ ap (λ (o : List ℕ). output_of channel first told Going ms ++ (o ++ last_words ending)) (quiet-of channel (state_after channel first told ms) ids)

pub said-silent : (channel : ℕ) (first : State) (told : List Told) (ids : List ℕ) (ms : List DateTime) → output_of channel first (told ++ given_up ids) Going ms
    ≡ output_of channel first told Going ms
said-silent channel first told ids ms = said-quiet channel first told ids Going ms ∙ append-nil (output_of channel first told Going ms)

no-more : (a b n : ℕ) → a ≡ b + n → n ≡ 0 → a ≡ b
no-more a b n e z = omega (arith, e, z)

pub used-quiet : (told : List Told) (ids : List ℕ) → used_in (told ++ given_up ids) ≡ used_in told
used-quiet told ids = no-more (used_in (told ++ given_up ids)) (used_in told) (used_in (given_up ids)) (used_in-append told (given_up ids)) (none-used ids)

-- ---- how far a server is that stands

abbrev pub course : State → ℕ → List DateTime → Option Agreement → Course
course s n moments a = record { state = s; number = n; moments = moments; agreement = a }

pub same-course : (c : Course) (s : State) (n : ℕ) (ms : List DateTime) (a : Option Agreement) → c.state ≡ s → c.number ≡ n → c.moments ≡ ms → c.agreement ≡ a
    → c ≡ course s n ms a
same-course c s n ms a p q r t =
    ap (λ (x : State). course x c.number c.moments c.agreement) p
    ∙ (ap (λ (x : ℕ). course s x c.moments c.agreement) q
    ∙ (ap (λ (x : List DateTime). course s n x c.agreement) r ∙ ap (λ (x : Option Agreement). course s n ms x) t))

agreement-by : (channel : ℕ) (c : Course) (told : List Told) → (course_after channel c told).agreement ≡ latest_behind c.agreement (flat_map agreements_in told)
agreement-by channel c [] = refl
agreement-by channel c (Agreed a ∷ told) = agreement-by channel (say channel c (Agreed a)).1 told
agreement-by channel c (Opened id handle token lifetime ∷ told) = agreement-by channel (say channel c (Opened id handle token lifetime)).1 told
agreement-by channel c (Asked id token octets ∷ told) = agreement-by channel (say channel c (Asked id token octets)).1 told
agreement-by channel c (GaveUp id ∷ told) = agreement-by channel (say channel c (GaveUp id)).1 told
agreement-by channel c (Closed ∷ told) = agreement-by channel (say channel c Closed).1 told

pub left-agreement : (channel : ℕ) (first : State) (told : List Told) (ms : List DateTime) → (state_after channel first told ms).agreement ≡ agreed_by told
unfolding state_after
left-agreement channel first told ms = agreement-by channel (start first ms) told

nothing-in : {A : Type 0} (xs : List A) → length xs ≡ 0 → xs ≡ []
nothing-in [] e = refl
nothing-in (x ∷ xs) e = absurd (omega (arith, e))

all-used : (k u l : ℕ) → l ≡ u → k + u ≡ l → k ≡ 0
all-used k u l e s = omega (arith, e, s)

enough : (u l : ℕ) → l ≡ u → u ≤ l
enough u l e = omega (arith, e)

left-moments : (channel : ℕ) (first : State) (told : List Told) (ms : List DateTime) → length ms ≡ used_in told
    → (state_after channel first told ms).moments ≡ []
unfolding state_after
left-moments channel first told ms e =
    nothing-in (course_after channel (start first ms) told).moments
    (all-used (length (course_after channel (start first ms) told).moments) (used_in told) (length ms) e
    (left_by-uses channel (start first ms) told (enough (used_in told) (length ms) e)))

pub left-course : (x : ServerChannel) (octets : List ℕ) (told : List Told) (first : State) (ms : List DateTime) (now : State)
    → ServerStands x octets told first ms now → state_after (channel_of x) first told ms ≡ course now (next_of x) [] (agreed_by told)
left-course x octets told first ms now s =
    same-course (state_after (channel_of x) first told ms) now (next_of x) [] (agreed_by told) s.state_is s.number_is
    (left-moments (channel_of x) first told ms s.used) (left-agreement (channel_of x) first told ms)

pub agreed-quiet : (channel : ℕ) (first : State) (told : List Told) (ids : List ℕ) (ms : List DateTime) → agreed_by (told ++ given_up ids) ≡ agreed_by told
agreed-quiet channel first told ids ms =
    sym (left-agreement channel first (told ++ given_up ids) ms)
    ∙ (ap (λ (c : Course). c.agreement) (left-quiet channel first told ids ms) ∙ left-agreement channel first told ms)

-- before any octet
pub stands-first : (x : ServerChannel) → Goes x [] [] → next_of x ≡ 1 → (first : State) → ServerStands x [] [] first [] first
unfolding state_after
stands-first x goes next first = record { goes = goes; state_is = refl; number_is = sym next; used = refl }

-- ---- one thing more

pub left-one : (channel : ℕ) (first : State) (told : List Told) (t : Told) (ms extra : List DateTime) (c : Course) → state_after channel first told ms ≡ c
    → used_in told ≤ length ms
    → state_after channel first (told ++ t ∷ []) (ms ++ extra) ≡ (say channel (with_more c extra) t).1
left-one channel first told t ms extra c e h =
    left-append channel first told (t ∷ []) (ms ++ extra)
    ∙ ap (λ (d : Course). course_after channel d (t ∷ [])) (left-more channel first told ms extra h ∙ ap (λ (d : Course). with_more d extra) e)

pub said-one : (channel : ℕ) (first : State) (told : List Told) (t : Told) (ms extra : List DateTime) (c : Course) → state_after channel first told ms ≡ c
    → used_in told ≤ length ms
    → output_of channel first (told ++ t ∷ []) Going (ms ++ extra) ≡ output_of channel first told Going ms ++ (say channel (with_more c extra) t).0
said-one channel first told t ms extra c e h =
    said-append channel first told (t ∷ []) Going (ms ++ extra)
    ∙ (ap (λ (o : List ℕ). o ++ (said_of channel (state_after channel first told (ms ++ extra)) (t ∷ []) ++ last_words Going))
    (said-more channel first told Going ms extra h)
    ∙ (ap (λ (d : Course). output_of channel first told Going ms ++ (said_of channel d (t ∷ []) ++ last_words Going)) (left-more channel first told ms extra h
    ∙ ap (λ (d : Course). with_more d extra) e)
    ∙ ap (λ (o : List ℕ). output_of channel first told Going ms ++ o) (append-nil ((say channel (with_more c extra) t).0 ++ [])
    ∙ append-nil (say channel (with_more c extra) t).0)))

length-replicate : (n : ℕ) (m : DateTime) → length (replicate n m) ≡ n
length-replicate zero m = refl
length-replicate (suc n) m = ap suc (length-replicate n m)

used-one : (told : List Told) (t : Told) (ms : List DateTime) (moment : DateTime) → length ms ≡ used_in told
    → length (ms ++ times_of_answers (t ∷ []) moment) ≡ used_in (told ++ t ∷ [])
used-one told t ms moment e =
    let l = length-append ms (times_of_answers (t ∷ []) moment) in
    let r = length-replicate (used_in (t ∷ [])) moment in
    let u = used_in-append told (t ∷ []) in
    omega (arith, e, l, r, u)

-- ---- what is answered

-- what is said of one thing that is answered, and how far the server is behind it
pub record Says (request : Option AnsweredRequest) (channel number next : ℕ) (moment : DateTime) (before now : State) (agreement : Option Agreement) (t : Told)
    (out : List ℕ) : Type 0 where
  pub out_is : (say channel (course before number (times_of_answers (t ∷ []) moment) agreement) t).0 ≡ out
  pub state_is : (say channel (course before number (times_of_answers (t ∷ []) moment) agreement) t).1.state ≡ now
  pub number_is : (say channel (course before number (times_of_answers (t ∷ []) moment) agreement) t).1.number ≡ next
  pub answered : IsTrue (is_answered t)
  pub request_is : request_at channel (course before number (times_of_answers (t ∷ []) moment) agreement) t ≡ request

pub says-sent : (channel number next : ℕ) (moment : DateTime) (before : State) (agreement : Option Agreement) (t : Told) (out : List ℕ)
    → AreSent channel number moment t out → next ≡ counted_by t number
    → Says None channel number next moment before before agreement t out
says-sent channel number next moment before agreement (Agreed a) out sent e =
    record { out_is = sym sent; state_is = refl; number_is = sym e; answered = refl; request_is = refl }
says-sent channel number next moment before agreement (Opened id handle token lifetime) out sent e =
    record { out_is = sym sent; state_is = refl; number_is = sym e; answered = refl; request_is = refl }
says-sent channel number next moment before agreement (Asked id token octets) out sent e = absurd sent
says-sent channel number next moment before agreement (GaveUp id) out sent e = absurd sent
says-sent channel number next moment before agreement Closed out sent e = absurd sent

pub says-reply : (request : AnsweredRequest) (channel number next : ℕ) (moment : DateTime) (before now : State) (agreement : Option Agreement) (id token : ℕ)
    (octets out : List ℕ)
    → now ≡ (answered before moment octets).0 → IsReplyAt channel token agreement (response.canonical (answered before moment octets).1) number id out next
    → request ≡ request_answered (lane_at channel token agreement) before moment octets
    → Says (Some request) channel number next moment before now agreement (Asked id token octets) out
says-reply request channel number next moment before now agreement id token octets out s r is =
    record {
      out_is = sym r.0;
      state_is = sym s;
      number_is = sym r.1;
      answered = refl;
      request_is = let one : AnsweredRequest → Option AnsweredRequest = λ x.
          Some x in ap one (sym is);
    }

-- ---- a step

module _ (old new : ServerChannel) (moment : DateTime) (piece : List ℕ) (n : ℕ) (octets : List ℕ) (told : List Told) (first : State) (ms : List DateTime)
    (before : State) (quiet : List ℕ)
    (s : ServerStands old octets told first ms before) (same : channel_of new ≡ channel_of old) where
  behind : state_after (channel_of old) first (told ++ given_up quiet) ms ≡ course before (next_of old) [] (agreed_by told)
  behind = left-quiet (channel_of old) first told quiet ms ∙ left-course old octets told first ms before s

  used-behind : length ms ≡ used_in (told ++ given_up quiet)
  used-behind = s.used ∙ sym (used-quiet told quiet)

  state-behind : (state_after (channel_of old) first (told ++ given_up quiet) ms).state ≡ before
  state-behind = ap (λ (c : Course). c.state) behind

  -- nothing is answered
  pub goes-silent : n ≡ length piece → Goes new (octets ++ take n piece) (told ++ given_up quiet) → next_of new ≡ next_of old
      → StepGoes (channel_of old) moment piece n [] new octets told first ms before
  goes-silent whole goes next =
      let ts = append-nil (told ++ given_up quiet) in
      let moments = append-nil ms in
      record {
        quiet = quiet;
        more = [];
        stops = (whole, refl);
        stands = subst (λ (x : List DateTime). ServerStands new (octets ++ take n piece) ((told ++ given_up quiet) ++ []) first x before) (sym moments)
            (subst (λ (x : List Told). ServerStands new (octets ++ take n piece) x first ms before) (sym ts)
            (record {
              goes = goes;
              state_is = ap (λ (ch : ℕ). (state_after ch first (told ++ given_up quiet) ms).state) same ∙ state-behind;
              number_is = ap (λ (ch : ℕ). (state_after ch first (told ++ given_up quiet) ms).number) same ∙ (ap (λ (c : Course). c.number) behind ∙ sym next);
              used = used-behind;
            }));
        out_is = ap (λ (x : List DateTime). output_of (channel_of old) first ((told ++ given_up quiet) ++ []) Going x) moments
            ∙ (ap (λ (x : List Told). output_of (channel_of old) first x Going ms) ts
            ∙ (said-silent (channel_of old) first told quiet ms ∙ sym (append-nil (output_of (channel_of old) first told Going ms))));
      }

  -- one thing is answered
  pub goes-saying : (request : Option AnsweredRequest) (t : Told) (out : List ℕ) (now : State) → (0 < n) × (n ≤ length piece)
      → GoesTelling new (octets ++ take n piece) (told ++ given_up quiet) t
      → Says request (channel_of old) (next_of old) (next_of new) moment before now (agreed_by told) t out
      → StepGoes (channel_of old) moment piece n out new octets told first ms now
  goes-saying request t out now counts goes says =
      let extra = times_of_answers (t ∷ []) moment in
      let c = course before (next_of old) [] (agreed_by told) in
      let room = enough (used_in (told ++ given_up quiet)) (length ms) used-behind in
      let one = left-one (channel_of old) first (told ++ given_up quiet) t ms extra c behind room in
      record {
        quiet = quiet;
        more = t ∷ [];
        stops = (counts.0, counts.1, says.answered, goes);
        stands = record {
          goes = goes_behind new (octets ++ take n piece) (told ++ given_up quiet) t goes;
          state_is = ap (λ (ch : ℕ). (state_after ch first ((told ++ given_up quiet) ++ t ∷ []) (ms ++ extra)).state) same
              ∙ (ap (λ (d : Course). d.state) one ∙ says.state_is);
          number_is = ap (λ (ch : ℕ). (state_after ch first ((told ++ given_up quiet) ++ t ∷ []) (ms ++ extra)).number) same
              ∙ (ap (λ (d : Course). d.number) one ∙ says.number_is);
          used = used-one (told ++ given_up quiet) t ms moment used-behind;
        };
        out_is = said-one (channel_of old) first (told ++ given_up quiet) t ms extra c behind room
            ∙ (ap (λ (o : List ℕ). o ++ (say (channel_of old) (course before (next_of old) extra (agreed_by told)) t).0)
            (said-silent (channel_of old) first told quiet ms)
            ∙ ap (λ (o : List ℕ). output_of (channel_of old) first told Going ms ++ o) says.out_is);
      }

  -- it closed
  pub closes : (0 < n) × (n ≤ length piece) → ClosedAt new (octets ++ take n piece) ((told ++ given_up quiet) ++ Closed ∷ [])
      → StepCloses (channel_of old) piece n [] new octets told first ms before before
  closes counts closed = record {
    quiet = quiet;
    some = counts;
    closed = closed;
    state_is = refl;
    left_is = ap (λ (c : Course). c.state) (left-append (channel_of old) first (told ++ given_up quiet) (Closed ∷ []) ms) ∙ state-behind;
    silent = refl;
    out_is = said-append (channel_of old) first (told ++ given_up quiet) (Closed ∷ []) Over ms
        ∙ ap (λ (o : List ℕ). o ++ []) (said-silent (channel_of old) first told quiet ms);
  }

  -- it refused
  pub refuses : (code : ℕ) → n ≤ length piece → RefusedAt new (octets ++ take n piece) (told ++ given_up quiet) code
      → StepRefuses (channel_of old) code piece n (last_words (Stopped code)) new octets told first ms before before
  refuses code within refused = record {
    quiet = quiet;
    within = within;
    refused = refused;
    state_is = refl;
    left_is = state-behind;
    out_is = said-quiet (channel_of old) first told quiet (Stopped code) ms;
  }
