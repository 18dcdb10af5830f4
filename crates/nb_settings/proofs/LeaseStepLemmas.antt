-- What each option of a lease adds to its settings.
use Rattle.std.proofs.Common.{◌≡◌, ◌∙◌, ap, refl, arith, ℕ, ◌<◌, ◌≤◌, Bool, ◌&&◌, List, [], ◌∷◌, ◌++◌, length, true, false}
use Rattle.std.specs.Prelude.{codes, pos, ◌==◌, nat_le}
use Rattle.std.proofs.lemmas.Bool.{le-leb, lt-leb}
use Rattle.std.proofs.lemmas.Bool.Decides.{nat_tests}
use Rattle.nb_dhcpmsg.specs.Options.{TagValue, joined, is_there}
use Rattle.nb_dhcpmsg.specs.Messages.{is_value}
use Rattle.nb_dhcpmsg.specs.Fields.{file_name, inner_options}
use Rattle.nb_settings.specs.declared.setting.OwnedKey.{OwnedKey}
use Rattle.nb_settings.specs.declared.setting.OwnedKey.TheVariants.{Tag}
use Rattle.nb_settings.specs.LeaseSettings.{numbered, lease_settings, address_at, option_setting, value_settings, options_in, options_within, is_left_out, is_named_file, address_setting, address_settings, tag_settings, within_settings, inner_settings, lease_priority, last_signed}
use Rattle.nb_settings.proofs.FindLemmas.{either_way}

pub no_priority : (os : List TagValue) → is_value 1 os ≡ false → lease_priority os ≡ pos 0
unfolding lease_priority
no_priority os off = rw off refl

pub its_priority : (os : List TagValue) → is_value 1 os ≡ true → lease_priority os ≡ last_signed (joined 1 os)
unfolding lease_priority
its_priority os on = rw on refl

pub no_setting : (block : List ℕ) (key : OwnedKey) (tag : ℕ) (os : List TagValue) → is_value tag os ≡ false → value_settings block key tag os ≡ []
unfolding value_settings
no_setting block key tag os off = rw off refl

pub one_setting : (block : List ℕ) (key : OwnedKey) (tag : ℕ) (os : List TagValue) → is_value tag os ≡ true → value_settings block key tag os ≡ option_setting block key (joined tag os) ∷ []
unfolding value_settings
one_setting block key tag os on = rw on refl

pub left_out : (block ack : List ℕ) (tag : ℕ) → is_left_out tag ≡ true → tag_settings block ack tag ≡ []
unfolding tag_settings
left_out block ack tag out = rw out refl

pub named_file : (block ack : List ℕ) (tag : ℕ) → is_left_out tag ≡ false → is_named_file ack tag ≡ true → tag_settings block ack tag ≡ option_setting block (Tag tag) (file_name ack) ∷ []
unfolding tag_settings
named_file block ack tag kept named = rw (kept, named) refl

pub of_value : (block ack : List ℕ) (tag : ℕ) → is_left_out tag ≡ false → is_named_file ack tag ≡ false → tag_settings block ack tag ≡ value_settings block (Tag tag) tag (options_in ack)
unfolding tag_settings
of_value block ack tag kept other = rw (kept, other) refl

pub of_inner : (block ack : List ℕ) → numbered (within_settings block (options_within ack)) 254 ≡ numbered (inner_settings block ack) 254
unfolding inner_settings
of_inner block ack = refl

-- a tag that no option has is no value
pub not_there : (tag : ℕ) (os : List TagValue) → is_there tag os ≡ false → is_value tag os ≡ false
not_there tag os off = ap (λ b. b && nat_le (length (joined tag os)) 1024) off

and_false : (a : Bool) → (a && false) ≡ false
and_false true = refl
and_false false = refl

-- nor is one whose value is too long
pub too_long : (tag : ℕ) (os : List TagValue) → 1024 < length (joined tag os) → is_value tag os ≡ false
too_long tag os long = ap (λ b. is_there tag os && b) (lt-leb (length (joined tag os)) 1024 long) ∙ and_false (is_there tag os)

-- another one is
pub a_value : (tag : ℕ) (os : List TagValue) → is_there tag os ≡ true → length (joined tag os) ≤ 1024 → is_value tag os ≡ true
a_value tag os on fits = ap (λ b. b && nat_le (length (joined tag os)) 1024) on ∙ le-leb (length (joined tag os)) 1024 fits

pub no_next : (block : List ℕ) (yours next : ℕ) → next ≡ 0 → address_settings block yours next ≡ address_setting block (codes "ip") yours ∷ []
unfolding address_settings
no_next block yours next none = rw none refl

pub both_addresses : (block : List ℕ) (yours next : ℕ) → (next ≡ 0 → ⊥) → address_settings block yours next ≡ address_setting block (codes "ip") yours ∷ address_setting block (codes "next-server") next ∷ []
unfolding address_settings
both_addresses block yours next some =
    let other : (next == 0) ≡ false = either_way (next == 0) (λ on. (let none : next ≡ 0 = grind (arith, nat_tests) in absurd (some none))) (λ off. off) in
    rw other refl

pub all_gathered : (block ack : List ℕ) → (numbered (tag_settings block ack) 254 ++ numbered (inner_settings block ack) 254) ++ address_settings block (address_at 16 ack) (address_at 20 ack) ≡ lease_settings block ack
unfolding lease_settings
all_gathered block ack = refl
