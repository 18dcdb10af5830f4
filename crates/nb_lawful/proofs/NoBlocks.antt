-- Commands that have read no block of a disk that they boot.
use Rattle.std.proofs.Common.{◌≡◌, ℕ, ◌-◌, ◌==◌, true, false, List, [], ◌∷◌, Option, Some, None, option_and_then, IsSome, refl, sym, ◌∙◌, ap, subst}
use Rattle.std.proofs.lemmas.Option.{none-some, same_Some}
use Rattle.nb_terms.specs.declared.cause.Cause.{Cause}
use Rattle.nb_drivecmd.specs.HookedDrives.{drive_numbered}
use Rattle.nb_drivecmd.specs.declared.outcome.AfterHook.TheVariants.{Keep, Boot}
use Rattle.nb_drivecmd.specs.declared.outcome.Hooking.{Hooking}
use Rattle.nb_machine.specs.Effects.{Effect, hooks_disk}
use Rattle.nb_laws.specs.CommandOpens.{CommandOpen, command_open, over_of}
use Rattle.nb_laws.specs.CommandsSoFar.{so_far, ComesTo, comes_by, booted_in, booted_so_far, booted_drive}
use Rattle.nb_laws.specs.Drives.{SessionOpening}
use Rattle.nb_laws.specs.Events.{Event}
use Rattle.nb_laws.specs.Hookings.{HooksDisk, KeepsDisk, BootsDisk, BootsBy, boots_hooking, boots_hooked, HasRead}
use Rattle.nb_laws.specs.Lists.{made, Opening, openings}
use Rattle.nb_laws.specs.Moves.{moves}
use Rattle.nb_laws.proofs.Bootings.{after_unbooted}
use Rattle.nb_lawful.proofs.Disks.{hooking_is, no_sessions}

abbrev pub kept_disk : (es : List Event) → KeepsDisk es → HooksDisk es
kept_disk es d = record { hooking = d.hooking; names = d.names }

abbrev pub booted_disk : (es : List Event) → BootsDisk es → HooksDisk es
booted_disk es d = record { hooking = d.hooking; names = d.names }

-- the words of the command boot no hooked drive
boots_no_drive : (es : List Event) (x : Option ℕ) → booted_so_far (so_far es) ≡ x → x ≡ None → booted_drive (so_far es) ≡ None
boots_no_drive es x is none = ap (option_and_then (λ number. drive_numbered number (so_far es).drives)) (is ∙ none)

pub words_boot_none : (es : List Event) (n : ℕ) (e : Effect) → booted_in e ≡ None → ComesTo es n e → booted_drive (so_far es) ≡ None
words_boot_none es n e none (shown, said, is) =
    boots_no_drive es (booted_in (comes_by 0 (so_far es) shown)) (ap (option_and_then (λ s. booted_in (comes_by 0 (so_far es) s))) said) (after_unbooted n (so_far es) shown (moves es) e none is)

some_none : {A : Type 0} (x : Option A) → x ≡ None → IsSome x → ⊥
some_none None e some = let no : false ≡ true = some in cc no
some_none (Some y) e some = none-some y (sym e)

-- one that has made no open
pub no_block_first : (es : List Event) → command_open es ≡ None → booted_drive (so_far es) ≡ None → (k : ℕ) (bytes : List ℕ) → BootsBy k es → HasRead k es bytes → ⊥
no_block_first es none unbooted k bytes (boots_hooking d some own) read = some_none (command_open es) none some
no_block_first es none unbooted k bytes (boots_hooked drive first names own) read = none-some drive (sym unbooted ∙ names)

-- one that has made an open, which hasn't read
pub no_block_later : (es : List Event) (o : CommandOpen) → command_open es ≡ Some o → (BootsDisk es → (bytes : List ℕ) → HasRead (made es - 1) es bytes → ⊥) → (k : ℕ) (bytes : List ℕ) → BootsBy k es → HasRead k es bytes → ⊥
no_block_later es o its unread k bytes (boots_hooking d some own) read = unread d bytes (subst (λ j. HasRead j es bytes) own read)
no_block_later es o its unread k bytes (boots_hooked drive first names own) read = none-some o (sym first ∙ its)

-- an open that is no drive's has read none
pub no_block_last : (es : List Event) (o : Opening) (kind : ℕ) → openings (made es - 1) es ≡ o ∷ [] → o.kind ≡ kind → (kind == 3) ≡ false → (bytes : List ℕ) → HasRead (made es - 1) es bytes → ⊥
no_block_last es o kind opened is other bytes h =
    let none = no_sessions (made es - 1) es o opened (ap (λ k. k == 3) is ∙ other) in
    no_session h.session (sym none ∙ h.is)
  where
    no_session : (s : SessionOpening) → ◌≡◌ {A = List SessionOpening} [] (s ∷ []) → ⊥
    no_session s e = cc e

-- an open that has ended was made
pub made_some : (x : Option CommandOpen) (cause : Cause) → over_of x ≡ Some cause → (o : CommandOpen) × (x ≡ Some o)
made_some None cause is = absurd (none-some cause is)
made_some (Some o) cause is = (o, refl)

-- one disk alone is hooked
pub same_after : (es : List Event) (hooking other : Hooking) → ComesTo es (made es) (hooks_disk hooking) → ComesTo es (made es) (hooks_disk other) → hooking ≡ other
same_after es hooking other names others = same_Some hooking other (sym (hooking_is es hooking names) ∙ hooking_is es other others)

-- it is either kept or booted
pub keep_or_boot : (es : List Event) (k : KeepsDisk es) (b : BootsDisk es) → ⊥
keep_or_boot es k b =
    let no : Keep ≡ Boot b.keep = sym k.keeps ∙ ap (λ (h : Hooking). h.after) (same_after es k.hooking b.hooking k.names b.names) ∙ b.boots in cc no
