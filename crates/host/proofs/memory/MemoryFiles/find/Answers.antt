use Rattle.std.proofs.Common.{◌≡◌, ◌≢◌, ◌-◌, All, drop, get_or, rules, map, true, false, subst, arith}
use Rattle.std.proofs.lemmas.List.{drop_all, length-map}
use Rattle.std.proofs.lemmas.List.Elements.{All-nil}
use Rattle.std.specs.Str.{bytes_eq}
use Rattle.host.specs.Files.{File, IsAt}
use Rattle.host.specs.Memory.{written_file}
use Rattle.host.proofs.Newest.{is_at, passed}
use Rattle.host.proofs.memory.MemoryFiles.find.Goals as goal

pub loop-number-init : goal.loop-number-init
loop-number-init c =
    let files = c.args.self.now.written.items in
    rw (drop_all c.len-number.result (map written_file files) (omega (arith, c.len-number.ensures, length-map files written_file))) (All-nil (λ (file : File). file.0 ≢ c.args.path.now))

pub returns-then-eq : goal.returns-then-eq
returns-then-eq c =
    let files = c.args.self.now.written.items in
    let n = c.loop-number.number in
    let same : bytes_eq (get_or files (n - 1) c.index-file.result.now).path.items c.args.path.now ≡ true = search rules in
    let bytes : (get_or files (n - 1) c.index-file.result.now).bytes.items ≡ c.as_slice-then-eq.result.now = search rules in
    subst (IsAt (map written_file files) c.args.path.now) bytes (is_at files c.args.path.now n c.index-file.result.now (omega arith) (omega arith) c.loop-number.invariant same)

pub loop-number-preserved : goal.loop-number-preserved
loop-number-preserved c =
    let files = c.args.self.now.written.items in
    let n = c.loop-number.number in
    let other : bytes_eq (get_or files (n - 1) c.index-file.result.now).path.items c.args.path.now ≡ false = search rules in
    passed files c.args.path.now n c.index-file.result.now (omega arith) (omega arith) c.loop-number.invariant other

pub returns : goal.returns
returns c =
    let done : c.loop-number.number ≡ 0 = omega arith in
    subst (λ n. All (λ (file : File). file.0 ≢ c.args.path.now) (drop n (map written_file c.args.self.now.written.items))) done c.loop-number.invariant
