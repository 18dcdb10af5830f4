use Rattle.std.proofs.Common.{ap, ◌∙◌, List, ℕ}
use Rattle.std.specs.Int.{w16, w32, from_be_bytes}
use Rattle.std.proofs.lemmas.List.{take_rest}
use Rattle.nb_record.proofs.StartLemmas.{start_at-from}
use Rattle.nb_record.proofs.reading.start_fields.Goals as goal

pub returns : goal.returns
returns c = start_at-from c.args.bytes.now _ (record {
  mac = c.part.ensures;
  uuid = c.part-2.ensures;
  key = c.part-3.ensures;
  arch = c.from_be_bytes.ensures ∙ ap (λ (x : List ℕ). from_be_bytes w16 x) c.part-4.ensures;
  w = c.from_be_bytes-2.ensures ∙ ap (λ (x : List ℕ). from_be_bytes w16 x) c.part-5.ensures;
  ip = c.from_be_bytes-3.ensures ∙ ap (λ (x : List ℕ). from_be_bytes w32 x) c.part-6.ensures;
  mask = c.from_be_bytes-4.ensures ∙ ap (λ (x : List ℕ). from_be_bytes w32 x) c.part-7.ensures;
  gateway = c.from_be_bytes-5.ensures ∙ ap (λ (x : List ℕ). from_be_bytes w32 x) c.part-8.ensures;
  dns = c.from_be_bytes-6.ensures ∙ ap (λ (x : List ℕ). from_be_bytes w32 x) c.part-9.ensures;
  script = take_rest c.args.bytes.now 80;
})
