-- Commands that may write their files, or refuse to.
use Rattle.std.proofs.Common.{◌≡◌, ◌∙◌, ◌++◌, Bool, Bor, List, ℕ, Option, None, Some, String, Result, Err, Vec, inl, inr, length, map, subst, sym}
use Rattle.std.proofs.lemmas.List.{length-map}
use Rattle.std.proofs.lemmas.List.Elements.{length_all_zip}
use Rattle.std.specs.Global.{Global}
use Rattle.std.specs.List.{AllZip}
use Rattle.z80dev_commands.specs.declared.job.Build.{Build}
use Rattle.host.specs.Streams.Stream.{Stream}
use Rattle.host.specs.Files.{Folder}
use Rattle.host.specs.declared.answer.Kind.{Kind}
use Rattle.host.specs.declared.end.End.{End}
use Rattle.host.specs.declared.end.End.TheVariants as end
use Rattle.z80dev.specs.Making.{AreFiles, BuildsWith, shared_paths, source_paths}
use Rattle.host.specs.Ending.{Effect, IsClear, NothingDone, UnlessRefused, WithAll, effect_of, EndsWithLines}
use Rattle.z80dev.specs.Outputs.{why_not_written}
use Rattle.z80dev_make.specs.Products.{program_kinds}
use Rattle.z80dev.specs.Products.{build_products}
use Rattle.z80dev.specs.Private.FileSteps.{BuildsTexts}
use Rattle.host.specs.Reading.{IsRead}
use Rattle.report_texts.specs.declared.front.SourceFile.{SourceFile}
use Rattle.host.proofs.Carried.{clear, unclear}

-- memory ran out before a file was read
pub lacking : (paths : List (List ℕ)) (Does : List (List ℕ) → Type 0) (x : Effect) (e : End) → e ≡ end.NoMemory → NothingDone x → WithAll paths Does x e
lacking paths Does x e out nothing = inr (inr (out, nothing.0), nothing.1)

pub refuses_or_lacks : (why : Option (List ℕ)) (paths : List (List ℕ)) (Does : List (List ℕ) → Type 0) (x : Effect) (e : End) → IsClear why (Err e) → NothingDone x → UnlessRefused why (WithAll paths Does x e) x e
refuses_or_lacks why paths Does x e is nothing = unclear why (WithAll paths Does x e) x e is nothing (λ out. lacking paths Does x e out nothing)

-- ---- what was read

pub as_many : {X Y : Type 0} (Is : List ℕ → List ℕ → Type 0) (paths : List X) (texts : List Y) (path_in : X → List ℕ) (text_in : Y → List ℕ)
    → AllZip Is (map path_in paths) (map text_in texts) → length paths ≡ length texts
as_many Is paths texts path_in text_in all = sym (length-map paths path_in) ∙ length_all_zip Is (map path_in paths) (map text_in texts) all ∙ length-map texts text_in

-- the same sources, by other names
pub are_files : (a b : List (Bor (List ℕ))) (s t : List (Vec ℕ Global)) (made given : List SourceFile) → a ≡ b → s ≡ t → given ≡ made
    → AreFiles (map (λ path. path.now) a) (map (λ text. text.items) s) made → AreFiles (map (λ path. path.now) b) (map (λ text. text.items) t) given
are_files a b s t made given same_paths same_texts same are =
    subst (AreFiles (map (λ path. path.now) b) (map (λ text. text.items) t)) (sym same)
    (subst (λ texts. AreFiles (map (λ path. path.now) b) (map (λ text. text.items) texts) made) same_texts
    (subst (λ paths. AreFiles (map (λ path. path.now) paths) (map (λ text. text.items) s) made) same_paths are))

-- A program that was built of what was read is what `build` makes.
pub builds : (base : List ℕ) (build : Build) (fronts texts : List (List ℕ)) (x : Effect)
    → AllZip (IsRead x.old) (shared_paths build.shared) fronts → AllZip (IsRead x.old) (source_paths build) texts
    → why_not_written base (program_kinds (build_products build)) (shared_paths build.shared ++ source_paths build) ≡ None → (lines : List ℕ) (e : End)
    → BuildsTexts base build fronts texts x lines e → BuildsWith base build x lines e
builds base build fronts texts x read_fronts read none lines e (inl is) =
    clear (why_not_written base (program_kinds (build_products build)) (shared_paths build.shared ++ source_paths build)) _ x e none (inl (fronts, read_fronts, inl (texts, read, is)))
builds base build fronts texts x read_fronts read none lines e (inr (out, nothing)) =
    clear (why_not_written base (program_kinds (build_products build)) (shared_paths build.shared ++ source_paths build)) _ x e none (lacking (shared_paths build.shared) _ x e out nothing)

-- The same base, kinds and files, by other names.
pub clear_of : (base given : List ℕ) (kinds meant : List Kind) (a b c d : List (Bor (List ℕ))) → base ≡ given → kinds ≡ meant → a ≡ b → c ≡ d
    → why_not_written base kinds (map (λ path. path.now) a ++ map (λ path. path.now) c) ≡ None
    → why_not_written given meant (map (λ path. path.now) b ++ map (λ path. path.now) d) ≡ None
clear_of base given kinds meant a b c d same_base same_kinds same same_sources is =
    subst (λ files. why_not_written given meant (map (λ path. path.now) b ++ map (λ path. path.now) files) ≡ None) same_sources
    (subst (λ files. why_not_written given meant (map (λ path. path.now) files ++ map (λ path. path.now) c) ≡ None) same
    (subst (λ ks. why_not_written given ks (map (λ path. path.now) a ++ map (λ path. path.now) c) ≡ None) same_kinds
    (subst (λ text. why_not_written text kinds (map (λ path. path.now) a ++ map (λ path. path.now) c) ≡ None) same_base is)))

pub builds_so : (base given : List ℕ) (build : Build) (s t u v : List (Vec ℕ Global)) (old mid new : Folder) (before after : Stream)
    (result : Result (Vec ℕ Global) End) → base ≡ given → s ≡ t → u ≡ v → mid ≡ old
    → EndsWithLines (BuildsTexts base build (map (λ text. text.items) s) (map (λ text. text.items) u) (effect_of mid new before after)) result
    → EndsWithLines (BuildsTexts given build (map (λ text. text.items) t) (map (λ text. text.items) v) (effect_of old new before after)) result
builds_so base given build s t u v old mid new before after result same_base same_fronts same_texts same is =
    subst (λ f. EndsWithLines (BuildsTexts given build (map (λ text. text.items) t) (map (λ text. text.items) v) (effect_of f new before after)) result) same
    (subst (λ texts. EndsWithLines (BuildsTexts given build (map (λ text. text.items) t) (map (λ text. text.items) texts) (effect_of mid new before after)) result) same_texts
    (subst (λ fronts. EndsWithLines (BuildsTexts given build (map (λ text. text.items) fronts) (map (λ text. text.items) u) (effect_of mid new before after)) result) same_fronts
    (subst (λ text. EndsWithLines (BuildsTexts text build (map (λ text. text.items) s) (map (λ text. text.items) u) (effect_of mid new before after)) result) same_base is)))
