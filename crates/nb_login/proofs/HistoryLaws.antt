-- What a login does is a function of what came, and it only says more when more comes.
use Rattle.std.proofs.Common.{◌≡◌, ℕ, List, [], ◌∷◌, ◌++◌, map, Bool, true, false, cond, refl, ap, ◌∙◌, sym, append_assoc}
use Rattle.std.specs.Prelude.{fold}
use Rattle.std.specs.List.{flat_map}
use Rattle.std.proofs.lemmas.List.{append-nil, map-append}
use Rattle.std.proofs.lemmas.List.Concat.{flat_map-append}
use Rattle.std.proofs.lemmas.List.Sums.{fold-append}
use Rattle.nb_login.specs.declared.info.LoginInfo.{LoginInfo}
use Rattle.nb_login.specs.declared.step.Decision.{Decision}
use Rattle.nb_login.specs.declared.step.NextRequest.TheVariants as ask
use Rattle.nb_login.specs.Asking.{login_text}
use Rattle.nb_login.specs.LoginHistory.{PduCame, LoginEntry, login_entry, login_ended, decided_at, IsDecidedSo, LoginMeets}
use Rattle.nb_login.specs.Logins.{after_came, login_history, text_of_entry, login_said}
use Rattle.nb_login.proofs.LoginHistoryLemmas.{EachAnswer-append, each_keeps}

abbrev came_of : List LoginEntry → List PduCame
came_of h = map (λ (e : LoginEntry). e.came) h

abbrev IsRead : LoginInfo → List LoginEntry → Type 0
IsRead i h = h ≡ login_history i (came_of h)

one_more : (i : LoginInfo) (h : List LoginEntry) (e : LoginEntry) → IsDecidedSo i h e → after_came i h e.came ≡ h ++ e ∷ []
one_more i h e so =
    ap (λ b. cond b h (h ++ login_entry e.came (decided_at i h e.came) ∷ [])) so.open_yet
    ∙ ap (λ (d : Decision). h ++ login_entry e.came d ∷ []) (sym so.so)

reads_on : (i : LoginInfo) (h : List LoginEntry) (e : LoginEntry) → IsRead i h → IsDecidedSo i h e → IsRead i (h ++ e ∷ [])
reads_on i h e is so =
    sym (ap (login_history i) (map-append (λ (x : LoginEntry). x.came) h (e ∷ []))
    ∙ fold-append (after_came i) [] (came_of h) (e.came ∷ [])
    ∙ ap (λ (x : List LoginEntry). after_came i x e.came) (sym is)
    ∙ one_more i h e so)

pub determined : (i : LoginInfo) (h : List LoginEntry) → LoginMeets i h → h ≡ login_history i (came_of h)
determined i h meets = each_keeps (IsRead i) (IsDecidedSo i) (reads_on i) [] h refl meets.answers

-- a history that meets the promise does so with a PDU more
meets_on : (i : LoginInfo) (h : List LoginEntry) (m : PduCame) (b : Bool) → login_ended h ≡ b → LoginMeets i h → LoginMeets i (cond b h (h ++ login_entry m (decided_at i h m) ∷ []))
meets_on i h m true is meets = meets
meets_on i h m false is meets = record { answers = EachAnswer-append (IsDecidedSo i) [] h (login_entry m (decided_at i h m)) meets.answers (record { open_yet = is; so = refl }) }

all_meet : (i : LoginInfo) (ms : List PduCame) (h : List LoginEntry) → LoginMeets i h → LoginMeets i (fold (after_came i) h ms)
all_meet i [] h meets = meets
all_meet i (m ∷ ms) h meets = all_meet i ms (after_came i h m) (meets_on i h m (login_ended h) refl meets)

pub history_meets : (i : LoginInfo) (ms : List PduCame) → LoginMeets i (login_history i ms)
history_meets i ms = all_meet i ms [] (record { answers = tt })

record Grows (h new : List LoginEntry) : Type 0 where
  later : List LoginEntry
  all : new ≡ h ++ later

grows_by : (i : LoginInfo) (h : List LoginEntry) (m : PduCame) (b : Bool) → Grows h (cond b h (h ++ login_entry m (decided_at i h m) ∷ []))
grows_by i h m true = record { later = []; all = sym (append-nil h) }
grows_by i h m false = record { later = login_entry m (decided_at i h m) ∷ []; all = refl }

grows : (i : LoginInfo) (more : List PduCame) (h : List LoginEntry) → Grows h (fold (after_came i) h more)
grows i [] h = record { later = []; all = sym (append-nil h) }
grows i (m ∷ more) h =
    let first = grows_by i h m (login_ended h) in
    let rest = grows i more (after_came i h m) in
    record { later = first.later ++ rest.later; all = rest.all ∙ ap (λ (x : List LoginEntry). x ++ rest.later) first.all ∙ append_assoc h first.later rest.later }

pub says_more : (i : LoginInfo) (ms more : List PduCame) → (rest : List ℕ) × (login_said i (ms ++ more) ≡ login_said i ms ++ rest)
says_more i ms more =
    let on = grows i more (login_history i ms) in
    let first = login_text i ask.Names 0 in (
      flat_map (text_of_entry i) on.later,
      ap (λ (h : List LoginEntry). first ++ flat_map (text_of_entry i) h) (fold-append (after_came i) [] ms more ∙ on.all)
          ∙ ap (λ (x : List ℕ). first ++ x) (flat_map-append (text_of_entry i) (login_history i ms) on.later)
          ∙ sym (append_assoc first (flat_map (text_of_entry i) (login_history i ms)) (flat_map (text_of_entry i) on.later)),
    )
