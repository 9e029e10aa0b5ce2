-- What a step makes of a connection that is served, whatever moment it is given.
use Rattle.std.proofs.Common.{refl, sym, ◌∙◌, ap, subst}
use Rattle.std.specs.Prelude.{◌≡◌, List, [], ◌∷◌, length, Bool, true, false, Option, Some, None, ◌<◌, ℕ, ◌++◌, ℤ, map, Result, take, Ok, Err}
use Rattle.ua_builtin.specs.declared.date_time.DateTime.{DateTime}
use Rattle.ua_channel.specs.Received.{listed}
use Rattle.ua_channel.specs.ServerStands.{limits_of, channel_of, Goes}
use Rattle.ua_channel.specs.ServerTold.{Told}
use Rattle.ua_frame.specs.declared.limits.Limits.{Limits}
use Rattle.ua_server.proofs.Advancing.{advanced-quiet, advanced-saying, advanced-broken}
use Rattle.ua_server.proofs.Happened.{meeting, meeting-led, meeting-moments, meeting-noted}
use Rattle.ua_server.specs.Happening.{Event, Happens, IsTold}
use Rattle.ua_server.specs.History.{told_in}
use Rattle.ua_server.specs.Now.{AdvanceNowBy, AdvanceNow}
use Rattle.ua_server.specs.Served.{channel_in}
use Rattle.ua_server.specs.Serving.{moment_of, moments_in}
use Rattle.ua_server.specs.ServingOver.{has_acted}
use Rattle.ua_server.specs.ServingParts.{Asked, OwesNothing, AdvancesTo, FailsTelling, OfEventsBetween, Steps, noted}
use Rattle.ua_server.specs.State.{State}
use Rattle.ua_server.specs.declared.server.Server.{Server}
use Rattle.ua_server.specs.declared.serving.Serving.{Serving}
use Rattle.ua_server.specs.declared.step.Advanced.{Advanced}
use Rattle.ua_server.specs.declared.step.StepFault.{StepFault}
use Rattle.ua_server.specs.declared.watch.AnsweredRequest.{AnsweredRequest}
use Rattle.ua_server.specs.declared.serve_fault.ServeFault.TheVariants as serve_fault

-- an answer is noted
pub noted-again : (server : Server) (m : Option DateTime) (greeted : Bool) (n : ℕ) → greeted ≡ true
    → ◌≡◌ {A = Serving} (record { server = server; moment = None; greeted = greeted; written = n })
    (noted (record { server = server; moment = m; greeted = greeted; written = n }))
noted-again server m true n e = refl
noted-again server m false n e = absurd cc

pub noted-first : (server : Server) (m : Option DateTime) (greeted : Bool) (n : ℕ) → greeted ≡ false
    → ◌≡◌ {A = Serving} (record { server = server; moment = m; greeted = true; written = n })
    (noted (record { server = server; moment = m; greeted = greeted; written = n }))
noted-first server m false n e = refl
noted-first server m true n e = absurd cc

module _ {M W A : Type 0} (changes : A → State → A → State → Type 0) (gives : M → ℤ → M → Type 0) (notes : W → AnsweredRequest → W → Type 0) (m0 m1 : M)
    (limits : Limits) (channel : ℕ) (first : State × A) (x mid : Serving) (server : Server) (mom : DateTime) (piece read written : List ℕ) (given : List Event)
    (now0 now1 : State) (app : A) (some : 0 < length piece)
    (kept : mid ≡ record x { moment = Some mom }) (a : Asked gives m0 m1 (λ ts. listed x.moment ++ map moment_of ts ≡ mom ∷ []))
    (lim : limits_of (channel_in server) ≡ limits_of (channel_in mid.server)) (chan : channel_of (channel_in server) ≡ channel_of (channel_in mid.server))
    (result : Result Advanced StepFault)
    (answers : (octets : List ℕ) (told : List Told) → Goes (channel_in mid.server) octets told
    → AdvanceNow (channel_in mid.server) mom piece result
    (channel_in server) octets told now0 now1)
    (k : OwesNothing changes x limits channel first read written given (now0, app)) (acted : has_acted false k.history ≡ true) where
  abbrev l : Limits
  l = limits_of (channel_in x.server)

  abbrev c : ℕ
  c = channel_of (channel_in x.server)

  same : mid.server ≡ x.server
  same = ap (λ (z : Serving). z.server) kept

  lim-here : limits_of (channel_in server) ≡ limits_of (channel_in x.server)
  lim-here = lim ∙ ap (λ (s : Server). limits_of (channel_in s)) same

  chan-here : channel_of (channel_in server) ≡ channel_of (channel_in x.server)
  chan-here = chan ∙ ap (λ (s : Server). channel_of (channel_in s)) same

  -- at its own limits and channel
  own : (j : OwesNothing changes x l c first read written given (now0, app)) × (has_acted false j.history ≡ true)
  own =
      subst (λ (v : Limits). (j : OwesNothing changes x v c first read written given (now0, app)) × (has_acted false j.history ≡ true)) (sym k.limits_is)
      (subst (λ (n : ℕ). (j : OwesNothing changes x limits n first read written given (now0, app)) × (has_acted false j.history ≡ true)) (sym k.channel_is)
      (k, acted))

  advanced : AdvanceNow (channel_in x.server) mom piece result (channel_in server) read (told_in own.0.history) now0 now1
  advanced =
      subst (λ (s : Server). AdvanceNow (channel_in s) mom piece result
      (channel_in server) read (told_in own.0.history) now0 now1) same
      (answers read (told_in own.0.history) (subst (λ (s : Server). Goes (channel_in s) read (told_in own.0.history)) (sym same) own.0.stands.goes))

  advanced-at : (r : Result Advanced StepFault) → result ≡ r → AdvanceNow (channel_in x.server) mom piece r (channel_in server) read
      (told_in own.0.history) now0 now1
  advanced-at r is =
      subst (λ (v : Result Advanced StepFault). AdvanceNow (channel_in x.server) mom piece v (channel_in server) read (told_in own.0.history) now0
      now1) is advanced

  -- at the limits and the channel that are named
  there : (P : Limits → ℕ → Type 0) → P l c → P limits channel
  there P p = subst (λ (n : ℕ). P limits n) k.channel_is (subst (λ (v : Limits). P v c) k.limits_is p)

  kept-moment : (request : Option AnsweredRequest) → listed x.moment ++ moments_in (meeting a.ticks request) ≡ mom ∷ []
  kept-moment request = ap (λ (ms : List DateTime). listed x.moment ++ ms) (meeting-moments a.ticks request) ∙ a.holds

  pub steps-quiet : (w : W) (found : Advanced) → result ≡ Ok found → found.answered ≡ false
      → OfEventsBetween (Happens gives notes) (m0, w) (m1, w)
      (λ ts. Steps changes (Ok found.step) (record mid { server = server }) limits channel first piece read written (given ++ ts) (now1, app))
  steps-quiet w found is quiet =
      let ts = meeting a.ticks None in
      record {
        ticks = ts;
        given = meeting-led gives notes m0 m1 w w a.ticks None a.given refl;
        holds = subst (λ (z : Serving). AdvancesTo changes found.step.end (record z { server = server }) limits channel first
            (read ++ take found.step.taken piece) found.step.out.items written (given ++ ts) (now1, app)) (sym kept)
            (there (λ v n. AdvancesTo changes found.step.end (record x { server = server; moment = Some mom }) v n first (read ++ take found.step.taken piece)
            found.step.out.items written (given ++ ts) (now1, app))
            (advanced-quiet changes x server mom piece read written given ts first now0 now1 app some lim-here chan-here (kept-moment None) own.0 own.1
            found.request (meeting-noted a.ticks None) found.step.end found.step.taken found.step.out.items
            (subst (λ (b : Bool). AdvanceNowBy b found.request (channel_in x.server) mom piece found.step.end found.step.taken found.step.out.items
            (channel_in server) read (told_in own.0.history) now0 now1) quiet (advanced-at (Ok found) is))));
      }

  pub steps-saying : (w w' : W) (found : Advanced) → IsTold notes w found.request w' → result ≡ Ok found → found.answered ≡ true
      → OfEventsBetween (Happens gives notes) (m0, w) (m1, w')
      (λ ts. Steps changes (Ok found.step) (noted (record mid { server = server })) limits channel first piece read written (given ++ ts) (now1, app))
  steps-saying w w' found led is said =
      let ts = meeting a.ticks found.request in
      record {
        ticks = ts;
        given = meeting-led gives notes m0 m1 w w' a.ticks found.request a.given led;
        holds = subst (λ (z : Serving). AdvancesTo changes found.step.end (noted (record z { server = server })) limits channel first
            (read ++ take found.step.taken piece) found.step.out.items written (given ++ ts) (now1, app)) (sym kept)
            (there (λ v n. AdvancesTo changes found.step.end (noted (record x { server = server; moment = Some mom })) v n first
            (read ++ take found.step.taken piece) found.step.out.items written (given ++ ts) (now1, app))
            (advanced-saying changes x server mom piece read written given ts first now0 now1 app some lim-here chan-here (kept-moment found.request) own.0
            own.1 found.request (meeting-noted a.ticks found.request) found.step.end found.step.taken found.step.out.items
            (subst (λ (b : Bool). AdvanceNowBy b found.request (channel_in x.server) mom piece found.step.end found.step.taken found.step.out.items
            (channel_in server) read (told_in own.0.history) now0 now1) said (advanced-at (Ok found) is))));
      }

  pub steps-broken : (w : W) (f : StepFault) (y : Serving) → result ≡ Err f
      → OfEventsBetween (Happens gives notes) (m0, w) (m1, w) (λ ts. Steps changes (Err f) y limits channel first piece read written (given ++ ts) (now1, app))
  steps-broken w f y is =
      let ts = meeting a.ticks None in
      record {
        ticks = ts;
        given = meeting-led gives notes m0 m1 w w a.ticks None a.given refl;
        holds = there (λ v n. FailsTelling changes serve_fault.OutOfMemory v n first (read ++ piece) written (given ++ ts) (now1, app))
            (advanced-broken changes x server mom piece read written given ts first now0 now1 app some lim-here chan-here (kept-moment None) own.0 own.1
            (meeting-noted a.ticks None) f (advanced-at (Err f) is));
      }
