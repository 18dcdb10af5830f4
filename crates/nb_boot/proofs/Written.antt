-- Writing bytes piece by piece.
use Rattle.std.proofs.Common.{◌≡◌, ℕ, refl, ◌+◌, ◌-◌, ◌≤◌, ◌<◌, List, [], ◌++◌, length, take, drop, sym, ◌∙◌, ap, subst, arith, append-nil, append_assoc, take-add, Result, Ok, Err}
use Rattle.std.specs.Prelude.{OnErr}
use Rattle.std.proofs.lemmas.List.{take_all, take-append-drop, length-drop}
use Rattle.nb_record.specs.Outside.{Outside, Writes, Rose}
use Rattle.nb_record.proofs.OutsideLemmas.{Passes-nothing, Passes-then, Writes-passes}
use Rattle.nb_boot.specs.Going.{Wrote, Stopped}

-- a fact holds of each result
pub on_err : {T E : Type 0} (r : Result T E) (P : Type 0) → P → OnErr r P
on_err (Ok x) P p = tt
on_err (Err e) P p = p

-- what is left of the bytes
pub rest_is : (bytes : List ℕ) (at : ℕ) → take (length bytes - at) (drop at bytes) ≡ drop at bytes
rest_is bytes at = take_all (length bytes - at) (drop at bytes) (omega (arith, length-drop at bytes))

-- no write writes nothing
pub wrote_nothing : (a : Outside) → Wrote a a []
wrote_nothing a = record { passes = Passes-nothing a; reads_stay = refl }

-- one write after others
pub wrote_then : (a b c : Outside) (bytes more : List ℕ) → Wrote a b bytes → Writes b c more → Wrote a c (bytes ++ more)
wrote_then a b c bytes more p w = record {
  passes = Passes-then a b c [] bytes [] more p.passes (Writes-passes b c more w);
  reads_stay = w.reads_stay ∙ p.reads_stay;
}

-- the next piece comes after those written
pub more_written : (a b c : Outside) (bytes : List ℕ) (at n : ℕ) → at ≤ length bytes → Wrote a b (take at bytes) →
    Writes b c (take n (take (length bytes - at) (drop at bytes))) → Wrote a c (take (at + n) bytes)
more_written a b c bytes at n h p v =
    let w = rw (rest_is bytes at) at v in
    subst (λ t. Wrote a c t) (sym (take-add at n bytes)) (wrote_then a b c (take at bytes) (take n (drop at bytes)) p w)

-- a count that rose later rose
pub rose_later : (a b c : ℕ) → a ≤ b → Rose b c → Rose a c
rose_later a b c h r = omega arith

-- a write that failed stops the bytes there
pub stopped_there : (a b c : Outside) (bytes : List ℕ) (at : ℕ) → at < length bytes → Wrote a b (take at bytes) → Writes b c [] → Rose b.write_faults c.write_faults → Stopped a c bytes
stopped_there a b c bytes at left_some p w r = record {
  part = take at bytes ++ [];
  lost = drop at bytes;
  fronts = sym (take-append-drop at bytes) ∙ ap (λ t. t ++ drop at bytes) (sym (append-nil (take at bytes)));
  missing = omega (arith, length-drop at bytes, left_some);
  wrote = wrote_then a b c (take at bytes) [] p w;
  rose = rose_later a.write_faults b.write_faults c.write_faults p.passes.counts.write_count r;
}

pub length-rest : (bytes : List ℕ) (at : ℕ) → length (take (length bytes - at) (drop at bytes)) ≡ length bytes - at
length-rest bytes at = rw (rest_is bytes at) (length-drop at bytes)

-- bytes that were written one after the other
pub wrote_both : (a b c : Outside) (bytes more : List ℕ) → Wrote a b bytes → Wrote b c more → Wrote a c (bytes ++ more)
wrote_both a b c bytes more p w = record {
  passes = Passes-then a b c [] bytes [] more p.passes w.passes;
  reads_stay = w.reads_stay ∙ p.reads_stay;
}

-- bytes stopped after others that were written
pub stopped_later : (a b c : Outside) (bytes more : List ℕ) → Wrote a b bytes → Stopped b c more → Stopped a c (bytes ++ more)
stopped_later a b c bytes more p s = record {
  part = bytes ++ s.part;
  lost = s.lost;
  fronts = ap (λ t. bytes ++ t) s.fronts ∙ sym (append_assoc bytes s.part s.lost);
  missing = s.missing;
  wrote = wrote_both a b c bytes s.part p s.wrote;
  rose = rose_later a.write_faults b.write_faults c.write_faults p.passes.counts.write_count s.rose;
}

-- what holds where a call fails gives what follows from it
pub on_err_then : {T E : Type 0} (r : Result T E) (P Q : Type 0) → (P → Q) → OnErr r P → OnErr r Q
on_err_then (Ok x) P Q f p = tt
on_err_then (Err e) P Q f p = f p
