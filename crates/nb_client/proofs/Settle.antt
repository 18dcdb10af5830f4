-- What a command makes of what an open has found.
use Rattle.std.proofs.Common.{◌≡◌, ℕ, Bool, true, false, cond, Option, None, Some, Ok, refl, ap}
use Rattle.std.specs.Option.{option_map_or}
use Rattle.nb_defs.specs.Causes.{is_ok_cause}
use Rattle.nb_wire.specs.declared.address.Ip4.{Ip4}
use Rattle.nb_wire.specs.declared.text.Text.{Text}
use Rattle.nb_terms.specs.declared.cause.Cause.{Cause}
use Rattle.nb_settings.specs.Tables.{TableLists}
use Rattle.nb_command.specs.Settings.{Change}
use Rattle.nb_command.specs.Addresses.{address_table}
use Rattle.nb_machine.specs.Errands.{Errand, onward}
use Rattle.nb_machine.specs.Findings.{lease_change, settled_by}
use Rattle.nb_machine.specs.Queries.{Query, for_lease, for_echo, for_host, for_address}
use Rattle.nb_machine.specs.Scripts.{by_end, concluded_by, job_for, next_of, settled_with, settles}
use Rattle.nb_machine.specs.States.{State}
use Rattle.nb_machine.specs.Takings.{Over}
use Rattle.nb_network.specs.Takes.{IsEndOf}
use Rattle.nb_chains.specs.declared.chain.Chain.{Chain}
use Rattle.nb_runner.specs.CommandWords.{onward_of}
use Rattle.nb_runner.specs.declared.errand.Errand.TheVariants as named
use Rattle.nb_runner.specs.declared.errand.Onward.{Onward as Next-onward}
use Rattle.nb_runner.specs.declared.errand.Onward.TheVariants as then_onward
use Rattle.nb_runner.specs.declared.query.Query.{Query as Asking}
use Rattle.nb_runner.specs.declared.world.World.{World}
use Rattle.nb_client.specs.Asked.{asked_onward, errand_kind, onward_kind}
use Rattle.nb_client.specs.Soundness.{IsBacked}
use Rattle.nb_client.specs.declared.asked.Asked.TheVariants.{Query as Exchange}
use Rattle.nb_runner.specs.CommandWords.{errand_of}
use Rattle.nb_runner.specs.Intents.{query_of}
use Rattle.nb_runner.specs.declared.errand.Errand.{Errand as Named}
use Rattle.nb_runner.specs.declared.query.Query.TheVariants as asked
use Rattle.nb_network.specs.declared.over.HasEnded.{HasEnded}
use Rattle.nb_client.specs.Concluding.{FindsServer, IsHostOf, onward_found_by, next_found, settled_so}

-- the server of a look-up that has ended well
pub finds_server : (errand : Named) (name : Text) (by : Ip4) (e : HasEnded) → is_ok_cause e.cause ≡ true → FindsServer e.address e (query_of (asked.Host errand name by))
finds_server errand name by e fine = of e.address refl
  where
    of : (a : Option Ip4) → e.address ≡ a → FindsServer a e (query_of (asked.Host errand name by))
    of None is = rw (fine, is) refl
    of (Some server) is = (errand_of errand, refl, rw (fine, is) refl)

-- the open that is next has the objects of what has waited
pub kinds_agree : (errand : Named) (o : Next-onward) (server : ℕ) → onward_of o ≡ onward (errand_of errand) server → onward_kind o ≡ errand_kind errand
kinds_agree (named.File f) (then_onward.File w) server e = refl
kinds_agree named.Echo (then_onward.Echo s) server e = refl
kinds_agree (named.Disk h) (then_onward.Disk k s) server e = refl
kinds_agree (named.Disk h) (then_onward.File w) server e = cc
kinds_agree (named.Disk h) (then_onward.Echo s) server e = cc
kinds_agree (named.Disk h) (then_onward.Name other name by) server e = cc
kinds_agree (named.File f) (then_onward.Disk k s) server e = cc
kinds_agree named.Echo (then_onward.Disk k s) server e = cc
kinds_agree (named.File f) (then_onward.Echo s) server e = cc
kinds_agree (named.File f) (then_onward.Name other name by) server e = cc
kinds_agree named.Echo (then_onward.Name other name by) server e = cc
kinds_agree named.Echo (then_onward.File w) server e = cc

-- of a server that was found no other name is looked up, beside which something would wait
pub next_lone : (errand : Named) (o : Next-onward) (waits : Option Chain) (server : ℕ) → onward_of o ≡ onward (errand_of errand) server → (w : World) (c : Chain) → IsBacked (asked_onward w o) (Some c) → waits ≡ None
next_lone errand (then_onward.File x) waits server e w c backed = absurd (cc)
next_lone errand (then_onward.Echo s) waits server e w c backed = absurd (cc)
next_lone errand (then_onward.Disk h s) waits server e w c backed = absurd (cc)
next_lone (named.File f) (then_onward.Name other name by) waits server e w c backed = absurd (cc)
next_lone named.Echo (then_onward.Name other name by) waits server e w c backed = absurd (cc)
next_lone (named.Disk h) (then_onward.Name other name by) waits server e w c backed = absurd (cc)

-- a look-up of a server's name has something that waits
pub backed_host : (q : Asking) (errand : Errand) (waits : Option Chain) → IsHostOf (query_of q) errand → IsBacked (Exchange q) waits → (c : Chain) × (waits ≡ Some c)
backed_host (asked.Host e name by) errand waits host backed = backed
backed_host asked.Lease errand waits host backed = absurd host
backed_host (asked.Echo server) errand waits host backed = absurd host
backed_host (asked.Address setting name by) errand waits host backed = absurd host

-- what is next of the open is what is next of what it handed out
pub next_same : (errand : Errand) (e : HasEnded) (o : Over) → IsEndOf e o → next_of errand o ≡ next_found errand e
next_same errand e o is = by (is_ok_cause e.cause) refl
  where
    by : (t : Bool) → is_ok_cause e.cause ≡ t → next_of errand o ≡ next_found errand e
    by true fine = rw (is.cause, fine, is.address fine) refl
    by false bad = rw (is.cause, bad) refl

-- what it is settled with
settled_same : (change change' : Change) (e : HasEnded) (cause : Cause) (table : TableLists) → cause ≡ e.cause → (is_ok_cause e.cause ≡ true → change ≡ change') →
    settled_with cause change table ≡ cond (is_ok_cause e.cause) (settled_by table change') (record { cause = e.cause; table = table })
settled_same change change' e cause table same changes = by (is_ok_cause e.cause) refl
  where
    by : (t : Bool) → is_ok_cause e.cause ≡ t → settled_with cause change table ≡ cond (is_ok_cause e.cause) (settled_by table change') (record { cause = e.cause; table = table })
    by true fine = rw (same, fine) (ap (settled_by table) (changes fine))
    by false bad = rw (same, bad) refl

-- where no server is next, the command is settled with what its open has found
pub settles_so : (q : Query) (depth : ℕ) (e : HasEnded) (o : Over) (s : State) → IsEndOf e o → onward_found_by e q ≡ None → concluded_by s depth (job_for q) (by_end o) ≡ settles (settled_so e q s.table)
settles_so for_lease depth e o s is none = ap settles (settled_same _ _ e o.cause s.table is.cause (λ fine. ap (λ b. option_map_or (lease_change s.table) b (Ok s.table)) (is.bytes fine)))
settles_so (for_echo server) depth e o s is none = ap settles (settled_same (Ok s.table) (Ok s.table) e o.cause s.table is.cause (λ fine. refl))
settles_so (for_host errand name by) depth e o s is none =
    rw (next_same errand e o is, none) (ap settles (settled_same (Ok s.table) (Ok s.table) e o.cause s.table is.cause (λ fine. refl)))
settles_so (for_address setting name by) depth e o s is none =
    ap settles (settled_same _ _ e o.cause s.table is.cause (λ fine. ap (λ b. option_map_or (λ (a : Ip4). address_table setting a.0 s.table) b (Ok s.table)) (is.address fine)))
