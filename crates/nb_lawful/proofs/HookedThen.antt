-- Which drives are hooked when a command has its result: all that live then, each on an open of its kind.
use Rattle.std.proofs.Common.{◌≡◌, ◌⊎◌, inl, inr, ℕ, ◌-◌, Bool, true, false, cond, List, [], ◌∷◌, Option, Some, None, option_and_then, filter, nat_lt, refl, sym, ◌∙◌, ap, subst, arith}
use Rattle.std.specs.List.{AllByRecursion, list_any}
use Rattle.std.proofs.lemmas.Option.{none-some, same_Some}
use Rattle.nb_terms.specs.declared.cause.Cause.{Cause}
use Rattle.nb_defs.specs.Causes.{is_ok_cause}
use Rattle.nb_drivecmd.specs.declared.drive.Drive.{Drive}
use Rattle.nb_drivecmd.specs.declared.outcome.Hooking.{Hooking}
use Rattle.nb_drivecmd.specs.HookedDrives.{with_hooked, is_drive}
use Rattle.nb_streams.proofs.FlowLaws.{all_append}
use Rattle.nb_laws.specs.Events.{Event}
use Rattle.nb_laws.specs.CommandsSoFar.{so_far, hooking_in, hooking_so_far, hooked_after, hooked_then, comes_by}
use Rattle.nb_machine.specs.Effects.{ShownWords}
use Rattle.nb_laws.specs.Hookings.{hooked_drives, HasDriveAnswer}
use Rattle.nb_laws.specs.Frames.{HoldsOf, HoldsResult}
use Rattle.nb_laws.specs.Lists.{made, Opening, openings, live}
use Rattle.nb_laws.proofs.SessionOpenings.{HoldsOfSession, each_session, no_session_unopened}
use Rattle.nb_laws.specs.CommandOpens.{command_open}
use Rattle.nb_lawful.specs.Results.{ResultStands}
use Rattle.nb_lawful.proofs.Awaited.{its}
use Rattle.nb_lawful.proofs.HookWords.{HookedOn, Hooks, HooksHow, hooks_kept, hooks_booted, hooks_by, hooks_so, hooked_itself, hooked_beside}
use Rattle.nb_lawful.proofs.Solitude.{IsSettled, IsLastMade, IsDrives, IsRunning, Solitude, only_hooked, over_by}

no_one : {A : Type 0} (x : A) → [] ≡ x ∷ [] → ⊥
no_one x e = let no : [] ≡ x ∷ [] = e in cc no

-- a disk that is hooked is so on the command's open
own_number : (es : List Event) (j : ℕ) → Solitude es → command_open es ≡ its j None → made es - 1 ≡ j
own_number es j a own = omega (arith, subst (λ z. IsLastMade z (made es)) own a.last)

one_some : (P : Drive → Type 0) (x : Drive) (b : Bool) (ys : List Drive) → P x → AllByRecursion P ys → AllByRecursion P (cond b (x ∷ ys) ys)
one_some P x true ys p h = (p, h)
one_some P x false ys p h = h

all_some : (P : Drive → Type 0) (f : Drive → Bool) (xs : List Drive) → AllByRecursion P xs → AllByRecursion P (filter f xs)
all_some P f [] h = tt
all_some P f (x ∷ xs) h = one_some P x (f x) (filter f xs) h.0 (all_some P f xs h.1)

all_hooked : (P : Drive → Type 0) (d : Drive) (ds : List Drive) → P d → AllByRecursion P ds → AllByRecursion P (with_hooked d ds)
all_hooked P d ds p h =
    all_append P (filter (λ other. nat_lt other.number d.number) ds) (d ∷ filter (λ other. nat_lt d.number other.number) ds) (all_some P (λ other. nat_lt other.number d.number) ds h)
    (p, all_some P (λ other. nat_lt d.number other.number) ds h)

-- the disk that a command hooks is on the open made last
abbrev drive_of : List Event → Hooking → Drive
drive_of es h = record { number = h.number; described = h.described; open_number = made es - 1 }

-- the drives that are hooked then, by what the words hook
module _ (es : List Event) (cause : Cause) (a : Solitude es) (r : ResultStands es cause) where
  -- where the script of a command was left, its words are none
  shown_none : (given : Cause) → (so_far es).left ≡ Some given → hooking_so_far (so_far es) ≡ None
  shown_none given left = ap (λ (x : Option ShownWords). option_and_then (λ s. hooking_in (comes_by 0 (so_far es) s)) x) (a.none_shown given left)

  hooked_none : hooking_so_far (so_far es) ≡ None → hooked_then cause es (so_far es) ≡ (so_far es).hooked
  hooked_none none = ap (λ h. hooked_after h cause (made es - 1) (so_far es).hooked) none

  hooked_some : (h : Hooking) → hooking_so_far (so_far es) ≡ Some h → is_ok_cause cause ≡ true → hooked_then cause es (so_far es) ≡ with_hooked (drive_of es h) (so_far es).hooked
  hooked_some h some well = ap (λ x. hooked_after x cause (made es - 1) (so_far es).hooked) some ∙ ap (λ b. cond b (with_hooked (drive_of es h) (so_far es).hooked) (so_far es).hooked) well

  hooked_fails : (h : Hooking) → hooking_so_far (so_far es) ≡ Some h → is_ok_cause cause ≡ false → hooked_then cause es (so_far es) ≡ (so_far es).hooked
  hooked_fails h some bad = ap (λ x. hooked_after x cause (made es - 1) (so_far es).hooked) some ∙ ap (λ b. cond b (with_hooked (drive_of es h) (so_far es).hooked) (so_far es).hooked) bad

  -- WHERE NO SCRIPT OF ITS WAS LEFT
  holds_so : (so_far es).left ≡ None → HoldsResult es cause
  holds_so none = subst (λ z. HoldsOf z es cause) none r.holds

  lives_fail : (j : ℕ) (o : Opening) → live j es ≡ o ∷ [] → IsRunning es → (IsSettled (command_open es) ⊎ Hooks es cause) → (Hooks es cause → ⊥) → HookedOn j (so_far es).hooked
  lives_fail j o lives run (inl settled) never = only_hooked es run settled j o lives
  lives_fail j o lives run (inr hooks) never = absurd (never hooks)

  -- no drive of its number is hooked
  none_of_it : (so_far es).left ≡ None → (hooks : Hooks es cause) → HooksHow es hooks.disk.hooking → list_any (is_drive hooks.disk.hooking.number) (hooked_drives es) ≡ false
  none_of_it none hooks (hooks_kept keeps) = (r.hooks none hooks.has_open (record { hooking = hooks.disk.hooking; names = hooks.disk.names; keeps = keeps }) hooks.answer).1
  none_of_it none hooks (hooks_booted keep bytes boots read) = r.frees none hooks.has_open (record { hooking = hooks.disk.hooking; names = hooks.disk.names; keep = keep; boots = boots }) bytes read

  lives_hook : (h : Hooking) (j : ℕ) (o : Opening) → live j es ≡ o ∷ [] → (so_far es).left ≡ None → IsRunning es → Hooks es cause → hooking_so_far (so_far es) ≡ Some h → HookedOn j (with_hooked (drive_of es h) (so_far es).hooked)
  lives_hook h j o lives none run hooks some = elim (run.own j o lives) [
    | inl own ↦ subst (λ z. HookedOn z (with_hooked (drive_of es h) (so_far es).hooked)) (own_number es j a own) (hooked_itself (drive_of es h) (so_far es).hooked)
    | inr hooked ↦
        let free = none_of_it none hooks hooks.how in
        let same : hooks.disk.hooking ≡ h = same_Some hooks.disk.hooking h (sym (hooks_so es hooks.disk) ∙ some) in
        hooked_beside j es o (drive_of es h) lives (subst (λ (x : Hooking). list_any (is_drive x.number) (hooked_drives es) ≡ false) same free) hooked
  ]

  lives_by : (j : ℕ) (o : Opening) → live j es ≡ o ∷ [] → (x : Option Hooking) → hooking_so_far (so_far es) ≡ x → (b : Bool) → is_ok_cause cause ≡ b → (so_far es).left ≡ None → IsRunning es → HookedOn j (hooked_then cause es (so_far es))
  lives_by j o lives None at b is none run = subst (HookedOn j) (sym (hooked_none at)) (lives_fail j o lives run (over_by es cause (holds_so none)) (λ hooks. none-some _ (sym at ∙ hooks_so es hooks.disk)))
  lives_by j o lives (Some h) at true is none run = subst (HookedOn j) (sym (hooked_some h at is)) (lives_hook h j o lives none run (hooks_by es cause h (holds_so none) at is) at)
  lives_by j o lives (Some h) at false is none run = subst (HookedOn j) (sym (hooked_fails h at is)) (lives_fail j o lives run (over_by es cause (holds_so none)) (λ hooks. let no : true ≡ false = sym (ap is_ok_cause hooks.is) ∙ is in cc no))

  -- all that live then are drives
  pub result_lives : (j : ℕ) (o : Opening) → live j es ≡ o ∷ [] → HookedOn j (hooked_then cause es (so_far es))
  result_lives j o lives = by (so_far es).left refl
    where
      by : (left : Option Cause) → (so_far es).left ≡ left → HookedOn j (hooked_then cause es (so_far es))
      by None at = lives_by j o lives (hooking_so_far (so_far es)) refl (is_ok_cause cause) refl at (a.running r.is_open at)
      by (Some given) at = subst (HookedOn j) (sym (hooked_none (shown_none given at))) (a.handed given at j o lives)

  -- THEIR KIND
  -- the disk that has answered is on an open of a drive's kind
  its_kind : HasDriveAnswer es → (o : Opening) × (openings (made es - 1) es ≡ o ∷ []) × (o.kind ≡ 3)
  its_kind answer = elim (a.opened (made es - 1)) [
    | inl none ↦ absurd (no_one answer.session (sym (no_session_unopened (made es - 1) es none) ∙ answer.is))
    | inr one ↦
        let all = each_session (λ x. openings (made es - 1) es ≡ x ∷ []) (made es - 1) es (subst (AllByRecursion (λ x. openings (made es - 1) es ≡ x ∷ [])) (sym one.1) (one.1, tt)) in
        let its = (subst (AllByRecursion (HoldsOfSession (λ x. openings (made es - 1) es ≡ x ∷ []))) answer.is all).0 in
        (answer.session.opening, its.0, its.1)
  ]

  pub kinds_by : (x : Option Hooking) → hooking_so_far (so_far es) ≡ x → (b : Bool) → is_ok_cause cause ≡ b → (left : Option Cause) → (so_far es).left ≡ left → AllByRecursion (IsDrives es) (hooked_then cause es (so_far es))
  kinds_by None at b is left l = subst (AllByRecursion (IsDrives es)) (sym (hooked_none at)) a.kinds
  kinds_by (Some h) at false is left l = subst (AllByRecursion (IsDrives es)) (sym (hooked_fails h at is)) a.kinds
  kinds_by (Some h) at true is (Some given) l = absurd (none-some h (sym (shown_none given l) ∙ at))
  kinds_by (Some h) at true is None l =
      let k = its_kind (hooks_by es cause h (holds_so l) at is).answer in
      subst (AllByRecursion (IsDrives es)) (sym (hooked_some h at is)) (all_hooked (IsDrives es) (drive_of es h) (so_far es).hooked (record { opening = k.0; opened = k.1; kind = k.2 }) a.kinds)
