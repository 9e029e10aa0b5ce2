-- Which replies stand before the first that is missing.
use Rattle.std.specs.Prelude.{◌≡◌, ◌+◌, ◌<◌, ◌++◌, ℕ, zero, suc, Bool, true, false, is_none, List, [], ◌∷◌, length, Option, Some, None}
use Rattle.std.specs.List.{list_any}
use Rattle.std.proofs.Common.{refl, sym, ◌∙◌, ap, subst, inl, inr, eqb, rules, arith, add-zero}
use Rattle.ua_channel.specs.ClientTold.{ClientTold}
use Rattle.ua_services.specs.Request.{kind_of_request}
use Rattle.ua_services.specs.declared.request.Request.{Request}
use Rattle.ua_client.specs.Replies.{IsReplyTo, IsMisanswer, AreSlots, AreReplies, IsRequestAt, IsFront, IsUntold, IsUntoldBefore, LacksAnswer, front_of}
use Rattle.ua_client.specs.Told.{is_told_of, IsFirstOf}
use Rattle.ua_client.specs.declared.reply.Reply.{Reply}
use Rattle.ua_client.proofs.Filling.{eqb-other, told-other, told-own}

-- ---- where nothing was told of the next call

pub front-untold : (requests : List Request) (id : ℕ) (told : List ClientTold) (slots : List (Option Reply)) → AreSlots requests id told slots
    → list_any is_none slots ≡ true → IsFront IsUntold (front_of slots) requests id told
front-untold [] id told [] h e = absurd cc
front-untold [] id told (slot ∷ slots) h e = absurd h
front-untold (r ∷ rs) id told [] h e = absurd h
front-untold (r ∷ rs) id told (None ∷ slots) h e = h.0
front-untold (r ∷ rs) id told (Some reply ∷ slots) h e = (h.0, front-untold rs (id + 1) told slots h.1 e)

pub front-before : (requests : List Request) (id : ℕ) (told : List ClientTold) (kept : List Reply) → IsFront IsUntold kept requests id told
    → IsFront IsUntoldBefore kept requests id told
front-before [] id told kept h = absurd h
front-before (r ∷ rs) id told [] h = inl h
front-before (r ∷ rs) id told (reply ∷ kept) h = (h.0, front-before rs (id + 1) told kept h.1)

-- ---- one thing more that was told

-- what is told of a call is told once, so that a reply stays one
reply-stays : (r : Request) (id : ℕ) (told : List ClientTold) (t : ClientTold) (reply : Reply) → IsFirstOf told t → IsReplyTo r id told reply
    → IsReplyTo r id (told ++ t ∷ []) reply
reply-stays r id told t reply once h = by (is_told_of id t) refl
  where
    by : (b : Bool) → is_told_of id t ≡ b → IsReplyTo r id (told ++ t ∷ []) reply
    by false e = (h.0, told-other id told t e ∙ h.1, h.2)
    by true e = let no : ◌≡◌ {A = List ClientTold} [] (h.0 ∷ []) = sym (once id e) ∙ h.1 in absurd cc

-- it was not read
pub front-unread : (requests : List Request) (id : ℕ) (told : List ClientTold) (t : ClientTold) (slots : List (Option Reply)) → IsFirstOf told t
    → AreSlots requests id told slots → list_any is_none slots ≡ true
    → IsFront IsUntoldBefore (front_of slots) requests id (told ++ t ∷ [])
front-unread [] id told t [] once h e = absurd cc
front-unread [] id told t (slot ∷ slots) once h e = absurd h
front-unread (r ∷ rs) id told t [] once h e = absurd h
front-unread (r ∷ rs) id told t (None ∷ slots) once h e = inr (told, t, refl, h.0)
front-unread (r ∷ rs) id told t (Some reply ∷ slots) once h e = (reply-stays r id told t reply once h.0, front-unread rs (id + 1) told t slots once h.1 e)

-- a message that is no answer is told of one call alone
misanswer-other : (request : Request) (id n : ℕ) (t : ClientTold) → IsMisanswer (kind_of_request request) (id + suc n) t → is_told_of id t ≡ false
misanswer-other request id n t by = ap (is_told_of id) by.1 ∙ eqb-other (id + suc n) id (λ e. omega (arith, e))

misanswer-own : (r request : Request) (id : ℕ) (t : ClientTold) → request ≡ r → IsMisanswer (kind_of_request request) (id + 0) t
    → IsMisanswer (kind_of_request r) id t
misanswer-own r request id t at by = subst (λ (q : Request). IsMisanswer (kind_of_request q) id t) at
    (subst (λ (m : ℕ). IsMisanswer (kind_of_request request) m t) (add-zero id) by)

misanswer-told : (r : Request) (id : ℕ) (t : ClientTold) → IsMisanswer (kind_of_request r) id t → is_told_of id t ≡ true
misanswer-told r id t own = ap (is_told_of id) own.1 ∙ same id
  where
    same : (n : ℕ) → eqb n n ≡ true
    same n = search rules

-- it is no answer to the request at a place
pub front-lacking : (requests : List Request) (id : ℕ) (told : List ClientTold) (t : ClientTold) (slots : List (Option Reply)) (n : ℕ) (request : Request)
    → IsFirstOf told t → AreSlots requests id told slots → IsRequestAt requests n request
    → IsMisanswer (kind_of_request request) (id + n) t → IsFront LacksAnswer (front_of slots) requests id (told ++ t ∷ [])
front-lacking [] id told t slots n request once h at by = absurd at
front-lacking (r ∷ rs) id told t [] n request once h at by = absurd h
front-lacking (r ∷ rs) id told t (None ∷ slots) zero request once h at by =
    let own = misanswer-own r request id t at by in
    inr (t, told-own id told t (misanswer-told r id t own) h.0, own)
front-lacking (r ∷ rs) id told t (Some reply ∷ slots) zero request once h at by =
    let own = misanswer-own r request id t at by in
    let no : ◌≡◌ {A = List ClientTold} [] (h.0.0 ∷ []) = sym (once id (misanswer-told r id t own)) ∙ h.0.1 in
    absurd cc
front-lacking (r ∷ rs) id told t (None ∷ slots) (suc n) request once h at by = inl (told-other id told t (misanswer-other request id n t by) ∙ h.0)
front-lacking (r ∷ rs) id told t (Some reply ∷ slots) (suc n) request once h at by = (
  reply-stays r id told t reply once h.0,
  front-lacking rs (id + 1) told t slots n request once h.1 at (subst (λ (m : ℕ). IsMisanswer (kind_of_request request) m t) (on id n) by),
)
  where
    on : (a b : ℕ) → a + suc b ≡ (a + 1) + b
    on a b = omega arith

-- ---- where none is missing

pub front-all : (requests : List Request) (id : ℕ) (told : List ClientTold) (slots : List (Option Reply)) → AreSlots requests id told slots
    → list_any is_none slots ≡ false → AreReplies requests id told (front_of slots)
front-all [] id told [] h e = tt
front-all [] id told (slot ∷ slots) h e = absurd h
front-all (r ∷ rs) id told [] h e = absurd h
front-all (r ∷ rs) id told (None ∷ slots) h e = absurd cc
front-all (r ∷ rs) id told (Some reply ∷ slots) h e = (h.0, front-all rs (id + 1) told slots h.1 e)

-- ---- how many they are

pub front-whole : (slots : List (Option Reply)) → list_any is_none slots ≡ false → length (front_of slots) ≡ length slots
front-whole [] e = refl
front-whole (None ∷ slots) e = absurd cc
front-whole (Some reply ∷ slots) e = ap suc (front-whole slots e)

pub front-fewer : (slots : List (Option Reply)) → list_any is_none slots ≡ true → length (front_of slots) < length slots
front-fewer [] e = absurd cc
front-fewer (None ∷ slots) e = omega arith
front-fewer (Some reply ∷ slots) e = let h = front-fewer slots e in omega (arith, h)
