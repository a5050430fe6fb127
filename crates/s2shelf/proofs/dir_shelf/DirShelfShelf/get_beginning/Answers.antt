use Rattle.std.proofs.Common.{◌≡◌, Ok, Some, rules, refl, subst}
use Rattle.std.specs.Prelude.{IfSome}
use Rattle.s2shelf.specs.DirShelf.{folder_path}
use Rattle.s2shelf.specs.FileCalls.{Makes, Reads, path_to}
use Rattle.s2shelf.specs.Working.Files.{calls_so_far}
use Rattle.s2shelf.proofs.Handed.{opened_and_read, makes_finding}
use Rattle.s2shelf.proofs.dir_shelf.DirShelfShelf.get_beginning.Goals as goal

pub returns-in-Ok-clause-calls : goal.returns-in-Ok-clause-calls
returns-in-Ok-clause-calls g c =
    let old = calls_so_far c.args.self.now.files in
    let new = calls_so_far c.read_opened.new.files in
    let is : c.as_str-path.result.now ≡ path_to (folder_path c.args.self.now) c.args.name.now = search rules in
    let opened = subst (λ f. IfSome f (λ file. c.open_regular-answer.result ≡ Ok file)) c.in-Some.is
    c.in_ok-file.ensures.same in
    subst (λ p. Makes old new (Reads (λ v. v.items) p c.args.most (Ok c.beginning_of.result))) is
    (opened_and_read (λ v. v.items) c.as_str-path.result.now c.args.most old
    (calls_so_far c.open_regular-answer.new.files) new c.open_regular-answer.result c.in-Some.file c.in-Ok.bytes
    c.beginning_of.result opened c.open_regular-answer.ensures c.in-Ok.ensures.calls c.beginning_of.ensures)

pub returns-in-Ok-clause-answer : goal.returns-in-Ok-clause-answer
returns-in-Ok-clause-answer g c = record {
  content = Some c.in-Ok.bytes.items;
  asks = record {
    same = (record { tells = refl; at = λ t. absurd cc }, search rules);
    holds = λ t. absurd cc;
    asked = refl;
    calls = (
      refl,
      makes_finding (λ v. v.items) (path_to (folder_path c.args.self.now) c.args.name.now) c.args.most
          (calls_so_far c.args.self.now.files) (calls_so_far c.read_opened.new.files) c.beginning_of.result
          (returns-in-Ok-clause-calls g c),
    );
  };
  is = c.beginning_of.ensures;
}
