-- What the first record of an owner says.
use Rattle.std.proofs.Common.{◌≡◌, ℕ, zero, suc, ◌+◌, ◌<◌, List, [], ◌∷◌, length, Bool, true, false, ◌&&◌, cond, Option, Some, None, refl, sym, ◌∙◌, ap, subst, arith}
use Rattle.std.specs.Option.{option_map, option_map_or, is_some}
use Rattle.nb_dnsmsg.specs.declared.record.Rdata.{Rdata}
use Rattle.nb_dnsmsg.specs.declared.record.Rdata.TheVariants.{Address, Alias, Other}
use Rattle.nb_dnsmsg.specs.declared.section.Section.{Section}
use Rattle.nb_dnsmsg.specs.declared.section.Want.{Want}
use Rattle.nb_dnsmsg.specs.declared.section.Want.TheVariants as want
use Rattle.nb_dnsmsg.specs.Records.{RecordData, host_address, alias_name, other_data, ResourceRecord, resource_record, IsRecordAt, AreRecordsAt}
use Rattle.nb_dnsmsg.specs.Names.{IsNameAt}
use Rattle.nb_dnsmsg.specs.Messages.{is_same_name, first_read, answer_address, alias_in, reached_by, ip4}
use Rattle.nb_dnsmsg.specs.Views.{IsRecordKept, wants, first_wanted, IsSectionAt, IsFirstFound, IsStepped, AddressIs, kept_address, kept_alias}
use Rattle.nb_dnsmsg.specs.Walks.{IsNameRead}
use Rattle.nb_dnsmsg.proofs.RecordLemmas.{name_one, record_one}

either_rest : {A : Type 0} (b : Bool) (x : A) → cond b x x ≡ x
either_rest true x = refl
either_rest false x = refl

-- a record that isn't wanted is passed
pub not_found : (w : Want) (message : List ℕ) (kept : Rdata) (owner : List ℕ) (d : RecordData) (name : List ℕ) (rs : List ResourceRecord)
    → IsRecordKept message kept d → (wants w kept && is_same_name owner name) ≡ false → first_wanted w name (resource_record owner d ∷ rs) ≡ first_wanted w name rs
not_found want.Address message (Address a) owner (host_address n) name rs is no_match = ap (λ b. option_map host_address (cond b (Some n) (first_read answer_address name rs))) no_match
not_found want.Address message (Alias p) owner (alias_name n) name rs is no_match = ap (option_map host_address) (either_rest (is_same_name owner name) (first_read answer_address name rs))
not_found want.Address message Other owner other_data name rs is no_match = ap (option_map host_address) (either_rest (is_same_name owner name) (first_read answer_address name rs))
not_found want.Alias message (Address a) owner (host_address n) name rs is no_match = ap (option_map alias_name) (either_rest (is_same_name owner name) (first_read alias_in name rs))
not_found want.Alias message (Alias p) owner (alias_name n) name rs is no_match = ap (λ b. option_map alias_name (cond b (Some n) (first_read alias_in name rs))) no_match
not_found want.Alias message Other owner other_data name rs is no_match = ap (option_map alias_name) (either_rest (is_same_name owner name) (first_read alias_in name rs))
not_found w message (Address a) owner (alias_name n) name rs is no_match = absurd is
not_found w message (Address a) owner other_data name rs is no_match = absurd is
not_found w message (Alias p) owner (host_address n) name rs is no_match = absurd is
not_found w message (Alias p) owner other_data name rs is no_match = absurd is
not_found w message Other owner (host_address n) name rs is no_match = absurd is
not_found w message Other owner (alias_name n) name rs is no_match = absurd is

-- a record that is wanted is the first
pub found_here : (w : Want) (message : List ℕ) (kept : Rdata) (owner : List ℕ) (d : RecordData) (name : List ℕ) (rs : List ResourceRecord)
    → IsRecordKept message kept d → (wants w kept && is_same_name owner name) ≡ true → first_wanted w name (resource_record owner d ∷ rs) ≡ Some d
found_here want.Address message (Address a) owner (host_address n) name rs is match = ap (λ b. option_map host_address (cond b (Some n) (first_read answer_address name rs))) match
found_here want.Address message (Alias p) owner (alias_name n) name rs is match = absurd cc
found_here want.Address message Other owner other_data name rs is match = absurd cc
found_here want.Alias message (Address a) owner (host_address n) name rs is match = absurd cc
found_here want.Alias message (Alias p) owner (alias_name n) name rs is match = ap (λ b. option_map alias_name (cond b (Some n) (first_read alias_in name rs))) match
found_here want.Alias message Other owner other_data name rs is match = absurd cc
found_here w message (Address a) owner (alias_name n) name rs is match = absurd is
found_here w message (Address a) owner other_data name rs is match = absurd is
found_here w message (Alias p) owner (host_address n) name rs is match = absurd is
found_here w message (Alias p) owner other_data name rs is match = absurd is
found_here w message Other owner (host_address n) name rs is match = absurd is
found_here w message Other owner (alias_name n) name rs is match = absurd is

-- what is found among all records of a section is found among those from a place on
pub record Searched (message : List ℕ) (w : Want) (name : List ℕ) (place n : ℕ) (rs : List ResourceRecord) : Type 0 where
  pub more : List ResourceRecord
  pub end : ℕ
  pub stand : AreRecordsAt message place more end
  pub count : length rs ≡ n + length more
  pub same : first_wanted w name rs ≡ first_wanted w name more

pub search_begins : (message : List ℕ) (w : Want) (name : List ℕ) (s : Section) (rs : List ResourceRecord) → IsSectionAt message s rs → Searched message w name s.start 0 rs
search_begins message w name s rs (end, in_section) = record { more = rs; end = end; stand = in_section.stand; count = omega arith; same = refl }

-- the record that stands at the place is the first of what is left
record Headed (message : List ℕ) (w : Want) (name : List ℕ) (next n : ℕ) (rs : List ResourceRecord) (r : ResourceRecord) : Type 0 where
  pub more : List ResourceRecord
  pub end : ℕ
  pub stand : AreRecordsAt message next more end
  pub count : length rs ≡ n + suc (length more)
  pub same : first_wanted w name rs ≡ first_wanted w name (r ∷ more)

headed : (message : List ℕ) (w : Want) (name : List ℕ) (place n : ℕ) (rs : List ResourceRecord) (r : ResourceRecord) (next : ℕ) → Searched message w name place n rs → n < length rs → IsRecordAt message place r next → Headed message w name next n rs r
headed message w name place n rs r next s some at = by s.more s.stand s.count s.same
  where
    by : (more : List ResourceRecord) → AreRecordsAt message place more s.end → length rs ≡ n + length more → first_wanted w name rs ≡ first_wanted w name more → Headed message w name next n rs r
    by [] stand count same = absurd (omega (arith, count, some))
    by (x ∷ more) (after, first, rest) count same =
        let one = record_one message place x r after next first at in
        record {
          more = more;
          end = s.end;
          stand = subst (λ y. AreRecordsAt message y more s.end) one.1 rest;
          count = count;
          same = same ∙ ap (λ y. first_wanted w name (y ∷ more)) one.0;
        }

pub search_on : (message : List ℕ) (w : Want) (name : List ℕ) (place n : ℕ) (rs : List ResourceRecord) (kept : Rdata) (owner : List ℕ) (d : RecordData) (next : ℕ) → Searched message w name place n rs → n < length rs
    → IsRecordAt message place (resource_record owner d) next → IsRecordKept message kept d → (wants w kept && is_same_name owner name) ≡ false → Searched message w name next (n + 1) rs
search_on message w name place n rs kept owner d next s some at is no_match =
    let h = headed message w name place n rs (resource_record owner d) next s some at in
    record { more = h.more; end = h.end; stand = h.stand; count = let c = h.count in omega (arith, c); same = h.same ∙ not_found w message kept owner d name h.more is no_match }

pub search_ends : (message : List ℕ) (w : Want) (name : List ℕ) (place n : ℕ) (rs : List ResourceRecord) (kept : Rdata) (owner : List ℕ) (d : RecordData) (next : ℕ) → Searched message w name place n rs → n < length rs
    → IsRecordAt message place (resource_record owner d) next → IsRecordKept message kept d → (wants w kept && is_same_name owner name) ≡ true → first_wanted w name rs ≡ Some d
search_ends message w name place n rs kept owner d next s some at is match =
    let h = headed message w name place n rs (resource_record owner d) next s some at in
    h.same ∙ found_here w message kept owner d name h.more is match

pub nothing_left : (message : List ℕ) (w : Want) (name : List ℕ) (place n : ℕ) (rs : List ResourceRecord) → Searched message w name place n rs → n ≡ length rs → first_wanted w name rs ≡ None
nothing_left message w name place n rs s all = by w s.more s.count s.same
  where
    none : (w : Want) → first_wanted w name [] ≡ None
    none want.Address = refl
    none want.Alias = refl

    by : (w : Want) (more : List ResourceRecord) → length rs ≡ n + length more → first_wanted w name rs ≡ first_wanted w name more → first_wanted w name rs ≡ None
    by w [] count same = same ∙ none w
    by w (x ∷ more) count same = absurd (omega (arith, count, all))

pub search_fails : (message : List ℕ) (w : Want) (name : List ℕ) (place n : ℕ) (rs : List ResourceRecord) → Searched message w name place n rs → n < length rs → ((r : ResourceRecord) (next : ℕ) → IsRecordAt message place r next → ⊥) → ⊥
search_fails message w name place n rs s some none = by s.more s.stand s.count
  where
    by : (more : List ResourceRecord) → AreRecordsAt message place more s.end → length rs ≡ n + length more → ⊥
    by [] stand count = omega (arith, count, some)
    by (x ∷ more) (after, first, rest) count = none x after first

abbrev IsAddressHere : List ℕ → Option Rdata → Option ℕ → Type 0
IsAddressHere message None x = option_map host_address x ≡ None
IsAddressHere message (Some kept) x = (d : RecordData) × (option_map host_address x ≡ Some d) × IsRecordKept message kept d

kept_here : (message : List ℕ) (o : Option Rdata) (x : Option ℕ) → IsAddressHere message o x → kept_address o ≡ option_map ip4 x
kept_here message None None is = refl
kept_here message None (Some n) is = absurd cc
kept_here message (Some kept) None (d, is, keeps) = absurd cc
kept_here message (Some (Address a)) (Some n) (host_address m, is, keeps) =
    let same : n ≡ m = cc in ap (λ (y : ℕ). Some (ip4 y)) (keeps ∙ sym same)
kept_here message (Some (Alias p)) (Some n) (host_address m, is, keeps) = absurd keeps
kept_here message (Some Other) (Some n) (host_address m, is, keeps) = absurd keeps
kept_here message (Some kept) (Some n) (alias_name m, is, keeps) = absurd cc
kept_here message (Some kept) (Some n) (other_data, is, keeps) = absurd cc

found_so : (message name : List ℕ) (rs : List ResourceRecord) (o : Option Rdata) → IsFirstFound o want.Address message name rs → IsAddressHere message o (first_read answer_address name rs)
found_so message name rs None is = is
found_so message name rs (Some kept) is = is

-- the first address, as the program keeps it
pub address_is : (message name : List ℕ) (rs : List ResourceRecord) (o : Option Rdata) → IsFirstFound o want.Address message name rs → AddressIs (kept_address o) name rs
address_is message name rs o found = kept_here message o (first_read answer_address name rs) (found_so message name rs o found)

pub record AliasHere (message : List ℕ) (x : Option (List ℕ)) (place : ℕ) : Type 0 where
  pub target : List ℕ
  pub end : ℕ
  pub first : x ≡ Some target
  pub stands : IsNameAt message place target end

target_here : (message : List ℕ) (x : Option (List ℕ)) (d : RecordData) (place : ℕ) → option_map alias_name x ≡ Some d → IsRecordKept message (Alias place) d → AliasHere message x place
target_here message None d place is keeps = absurd cc
target_here message (Some name) (host_address n) place is keeps = absurd keeps
target_here message (Some name) other_data place is keeps = absurd keeps
target_here message (Some name) (alias_name m) place is (end, keeps) =
    let same : name ≡ m = cc in
    record { target = m; end = end; first = ap (λ (y : List ℕ). Some y) same; stands = keeps }

pub alias_found : (message name : List ℕ) (rs : List ResourceRecord) (o : Option Rdata) (place : ℕ) → IsFirstFound o want.Alias message name rs → kept_alias o ≡ Some place → AliasHere message (first_read alias_in name rs) place
alias_found message name rs None place found is = absurd cc
alias_found message name rs (Some (Address a)) place found is = absurd cc
alias_found message name rs (Some (Alias p)) place (d, first, keeps) is =
    let same : p ≡ place = cc in
    target_here message (first_read alias_in name rs) d place first (subst (λ x. IsRecordKept message (Alias x) d) same keeps)
alias_found message name rs (Some Other) place found is = absurd cc

none_here : (message : List ℕ) (x : Option (List ℕ)) (kept : Rdata) (d : RecordData) → option_map alias_name x ≡ Some d → IsRecordKept message kept d → kept_alias (Some kept) ≡ None → ⊥
none_here message None kept d is keeps none = cc
none_here message (Some name) (Alias p) d is keeps none = cc
none_here message (Some name) (Address a) (alias_name m) is keeps none = keeps
none_here message (Some name) (Address a) (host_address m) is keeps none = cc
none_here message (Some name) (Address a) other_data is keeps none = keeps
none_here message (Some name) Other (alias_name m) is keeps none = keeps
none_here message (Some name) Other (host_address m) is keeps none = keeps
none_here message (Some name) Other other_data is keeps none = cc

unmapped : (x : Option (List ℕ)) → option_map alias_name x ≡ None → x ≡ None
unmapped None is = refl
unmapped (Some name) is = absurd cc

pub no_alias : (message name : List ℕ) (rs : List ResourceRecord) (o : Option Rdata) → IsFirstFound o want.Alias message name rs → kept_alias o ≡ None → first_read alias_in name rs ≡ None
no_alias message name rs None found is = unmapped (first_read alias_in name rs) found
no_alias message name rs (Some kept) (d, first, keeps) is = absurd (none_here message (first_read alias_in name rs) kept d first keeps is)

-- the name that was read is the alias's
pub stepped : (message : List ℕ) (name next : List ℕ) (rs : List ResourceRecord) (place : ℕ) (r : Option ℕ) → AliasHere message (first_read alias_in name rs) place → IsNameRead r message place next → IsStepped (is_some r) name next rs
stepped message name next rs place None a is = absurd (is a.target a.end a.stands)
stepped message name next rs place (Some end) a is = a.first ∙ ap (λ (y : List ℕ). Some y) (name_one message place a.target next a.end end a.stands is).0

pub reached_none : (n : ℕ) (name : List ℕ) (rs : List ResourceRecord) → first_read alias_in name rs ≡ None → reached_by n name rs ≡ name
unfolding reached_by
reached_none zero name rs none = refl
reached_none (suc n) name rs none = ap (λ (x : Option (List ℕ)). option_map_or (λ next. reached_by n next rs) x name) none

pub reached_more : (n : ℕ) (name next : List ℕ) (rs : List ResourceRecord) → first_read alias_in name rs ≡ Some next → reached_by (suc n) name rs ≡ reached_by n next rs
unfolding reached_by
reached_more n name next rs one = ap (λ (x : Option (List ℕ)). option_map_or (λ next. reached_by n next rs) x name) one

pub reached_by_none : (name : List ℕ) (rs : List ResourceRecord) → reached_by 0 name rs ≡ name
unfolding reached_by
reached_by_none name rs = refl

pub step_true : (b : Bool) (name next : List ℕ) (rs : List ResourceRecord) → b ≡ true → IsStepped b name next rs → first_read alias_in name rs ≡ Some next
step_true true name next rs e is = is
step_true false name next rs e is = absurd cc

pub step_false : (b : Bool) (name next : List ℕ) (rs : List ResourceRecord) → b ≡ false → IsStepped b name next rs → (first_read alias_in name rs ≡ None) × (next ≡ name)
step_false true name next rs e is = absurd cc
step_false false name next rs e is = is
