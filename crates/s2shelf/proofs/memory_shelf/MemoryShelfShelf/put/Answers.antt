use Rattle.std.proofs.Common.{rules, Some, refl, ◌≡◌}
use Rattle.std.specs.String.{string_bytes}
use Rattle.std.specs.BTreeMap.{get_by_text}
use Rattle.std.proofs.lemmas.Map.Text.{btree_map_updates_text}
use Rattle.s2shelf.proofs.Named.{put_there, put_elsewhere}
use Rattle.s2shelf.proofs.memory_shelf.MemoryShelfShelf.put.Goals as goal

pub returns-in-Ok-clause-answer : goal.returns-in-Ok-clause-answer
returns-in-Ok-clause-answer c =
    let old = c.args.self.now.named in
    let new = c.insert.new.self in
    let bytes = c.in_ok-bytes.bytes in
    let after = btree_map_updates_text (string_bytes c.in_ok-name.name) old new (Some bytes) c.in-Ok.ensures.updates in
    let key : string_bytes c.in_ok-name.name ≡ c.args.name.now = search rules in
    record {
      tells = refl;
      there = λ _. put_there (λ b. b.items) (get_by_text old) (get_by_text new) _ c.args.name.now bytes
          c.args.bytes.now after key (search rules);
      others = λ _ other ne. put_elsewhere (λ b. b.items) (get_by_text old) (get_by_text new) _ _ other bytes after
          key ne;
      failures = search rules;
      found = refl;
      calls = (refl, tt);
    }
