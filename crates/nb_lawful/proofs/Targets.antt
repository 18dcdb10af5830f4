-- What is asked of the host of a disk that is to be hooked: its open, or its address; or why nothing is.
use Rattle.std.proofs.Common.{◌≡◌, ℕ, ◌==◌, Bool, true, false, cond, List, Option, Some, None, Result, Ok, Err, refl, sym, subst, eq-eqb, ◌∙◌}
use Rattle.std.specs.Option.{option_map_or}
use Rattle.nb_terms.specs.declared.cause.Cause.{Cause}
use Rattle.nb_defs.specs.Causes.{is_ok_cause}
use Rattle.nb_wire.specs.declared.address.Ip4.{Ip4}
use Rattle.nb_uri.specs.Addresses.{four_decimals}
use Rattle.nb_dns.specs.WrittenNames.{is_lookup_name}
use Rattle.nb_settings.specs.Tables.{TableLists}
use Rattle.nb_drivecmd.specs.declared.drive.Drive.{Drive}
use Rattle.nb_drivecmd.specs.declared.outcome.Hooking.{Hooking}
use Rattle.nb_machine.specs.Queries.{bad_name, dns_in, with_domain}
use Rattle.nb_machine.specs.Errands.{hooks_then, Onward, hooks_now, looks_up_now}
use Rattle.nb_machine.specs.Effects.{full_opens, full_drives, next_open, next_look_up, next_by_name, next_at_host, unless_two_hooked, is_host_text, next_at_target}
use Rattle.nb_laws.specs.Openings.{LooksUpTarget}

-- one more open may be made, on the server or for its address
pub data AsksTarget (k : ℕ) (table : TableLists) (hooking : Hooking) (next : Onward) : Type 0 where
  asks_server : (server : ℕ) → next ≡ hooks_now hooking server → (k ≡ 16384 → ⊥) → AsksTarget k table hooking next
  asks_address : (name : List ℕ) (by : ℕ) → next ≡ looks_up_now (hooks_then hooking) name by → LooksUpTarget table hooking name by → (k ≡ 16384 → ⊥) → AsksTarget k table hooking next

-- what comes of it
pub data TargetAnswer (k : ℕ) (table : TableLists) (hooking : Hooking) : Result Onward Cause → Type 0 where
  goes_there : (next : Onward) → AsksTarget k table hooking next → TargetAnswer k table hooking (Ok next)
  goes_nowhere : (cause : Cause) → is_ok_cause cause ≡ false → TargetAnswer k table hooking (Err cause)

not_all : (k : ℕ) → (k == 16384) ≡ false → k ≡ 16384 → ⊥
not_all k fewer is = absurd (let clash : false ≡ true = sym fewer ∙ eq-eqb k 16384 is in cc clash)

either_answer : (k : ℕ) (table : TableLists) (hooking : Hooking) (b : Bool) (x y : Result Onward Cause) → (b ≡ true → TargetAnswer k table hooking x) → (b ≡ false → TargetAnswer k table hooking y) → TargetAnswer k table hooking (cond b x y)
either_answer k table hooking true x y p q = p refl
either_answer k table hooking false x y p q = q refl

host_answer : (k : ℕ) (table : TableLists) (hooking : Hooking) → TargetAnswer k table hooking (next_at_host k table hooking.disk.host (hooks_then hooking))
host_answer k table hooking = by (four_decimals hooking.disk.host) refl
  where
    name : List ℕ
    name = with_domain table hooking.disk.host

    of_server : (o : Option Ip4) → dns_in table ≡ o → four_decimals hooking.disk.host ≡ None → is_lookup_name (with_domain table hooking.disk.host) ≡ true → (k == 16384) ≡ false → TargetAnswer k table hooking (next_look_up (hooks_then hooking) (with_domain table hooking.disk.host) o)
    of_server None is none may few = goes_nowhere _ refl
    of_server (Some by) is none may few =
        goes_there _ (asks_address (with_domain table hooking.disk.host) by.0 refl (record { no_address = none; is_name = refl; may_be = may; server = by; known = is; by_is = refl }) (not_all k few))

    by : (o : Option ℕ) → four_decimals hooking.disk.host ≡ o → TargetAnswer k table hooking (option_map_or (λ address. next_open k (hooks_now hooking address)) o (next_by_name k table (hooks_then hooking) (with_domain table hooking.disk.host)))
    by None none =
        either_answer k table hooking (is_lookup_name (with_domain table hooking.disk.host)) (cond (k == 16384) (Err full_opens) (next_look_up (hooks_then hooking) (with_domain table hooking.disk.host) (dns_in table))) (Err bad_name)
        (λ may. either_answer k table hooking (k == 16384) (Err full_opens) (next_look_up (hooks_then hooking) (with_domain table hooking.disk.host) (dns_in table)) (λ full. goes_nowhere full_opens refl) (λ few. of_server (dns_in table) refl none may few))
        (λ no. goes_nowhere bad_name refl)
    by (Some address) some =
        either_answer k table hooking (k == 16384) (Err full_opens) (Ok (hooks_now hooking address)) (λ full. goes_nowhere full_opens refl) (λ few. goes_there (hooks_now hooking address) (asks_server address refl (not_all k few)))

target_answer : (k : ℕ) (table : TableLists) (drives : List Drive) (hooking : Hooking) → TargetAnswer k table hooking (next_at_target k table drives hooking)
target_answer k table drives hooking =
    either_answer k table hooking (is_host_text table hooking.disk.host) (unless_two_hooked drives (next_at_host k table hooking.disk.host (hooks_then hooking))) (Err bad_name)
    (λ host. either_answer k table hooking _ (Err full_drives) (next_at_host k table hooking.disk.host (hooks_then hooking)) (λ two. goes_nowhere full_drives refl) (λ fewer. host_answer k table hooking))
    (λ no. goes_nowhere bad_name refl)

pub target_next : (k : ℕ) (table : TableLists) (drives : List Drive) (hooking : Hooking) (next : Onward) → next_at_target k table drives hooking ≡ Ok next → AsksTarget k table hooking next
target_next k table drives hooking next is = by (Ok next) (subst (TargetAnswer k table hooking) is (target_answer k table drives hooking)) refl
  where
    by : (r : Result Onward Cause) → TargetAnswer k table hooking r → r ≡ Ok next → AsksTarget k table hooking next
    by _ (goes_there other asks) e = let same : other ≡ next = cc e in subst (AsksTarget k table hooking) same asks
    by _ (goes_nowhere cause failed) e = absurd (cc e)

pub target_fails : (k : ℕ) (table : TableLists) (drives : List Drive) (hooking : Hooking) (cause : Cause) → next_at_target k table drives hooking ≡ Err cause → is_ok_cause cause ≡ false
target_fails k table drives hooking cause is = by (Err cause) (subst (TargetAnswer k table hooking) is (target_answer k table drives hooking)) refl
  where
    by : (r : Result Onward Cause) → TargetAnswer k table hooking r → r ≡ Err cause → is_ok_cause cause ≡ false
    by _ (goes_there next asks) e = absurd (cc e)
    by _ (goes_nowhere other failed) e = let same : other ≡ cause = cc e in subst (λ c. is_ok_cause c ≡ false) same failed
