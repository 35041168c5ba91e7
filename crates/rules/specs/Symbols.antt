-- What the declarations of a symbol say of it. Assumes nothing.
use Rattle.std.specs.Prelude.{Bool, true, false, cond, ◌&&◌, List, [], ◌∷◌, Some, None, Option, ◌==◌, nat_le}
use Rattle.std.specs.List.{list_any}
use Rattle.ids.specs.declared.numbers.NameId.{NameId}
use Rattle.ids.specs.declared.numbers.PackageId.{PackageId}
use Rattle.ids.specs.declared.numbers.SymbolId.{SymbolId}
use Rattle.host.specs.Namespaces.{decl_namespaces}
use Rattle.host.specs.Program.{Decl, Symbol, told_kind}
use Rattle.host.specs.Rules.{is_definition}
use Rattle.host.specs.declared.told.SourceRange.{SourceRange}
use Rattle.rules.specs.declared.facts.Namespace.{Namespace}
use Rattle.rules.specs.declared.facts.Namespace.TheVariants.{Value, «Type»}

-- the first declaration gives name and privacy

abbrev pub first_name : List Decl → Option NameId
first_name [] = None
first_name (d ∷ ds) = d.name

abbrev pub name_of : Symbol → Option NameId
name_of s = first_name s.decls

abbrev pub first_private : List Decl → Bool
first_private [] = false
first_private (d ∷ ds) = d.flags.private

abbrev pub is_private : Symbol → Bool
is_private s = first_private s.decls

-- any declaration makes a class or a scope

abbrev pub is_class : Symbol → Bool
is_class s = list_any (λ d. d.flags.class) s.decls

abbrev pub is_scope : Symbol → Bool
is_scope s = list_any (λ d. d.flags.scope) s.decls

-- whether a declaration is a value, and whether it is a type
abbrev pub namespaces_of : Decl → Bool × Bool
namespaces_of d = decl_namespaces (told_kind d.kind)

abbrev pub both : Bool × Bool
both = (true, true)

abbrev pub includes : Bool × Bool → Namespace → Bool
includes ns Value = ns.0
includes ns «Type» = ns.1

-- a definition marked export
abbrev pub is_exported : Decl → Bool
is_exported d = is_definition d.kind && d.flags.export

-- in what namespaces a symbol is exported: those of its definitions marked export, or else both
abbrev pub exported_namespaces : Symbol → Bool × Bool
exported_namespaces s =
    cond (list_any is_exported s.decls) (list_any (λ d. is_exported d && (namespaces_of d).0) s.decls, list_any (λ d. is_exported d && (namespaces_of d).1) s.decls) both

-- an implementation that has overloads
abbrev pub is_overloaded : Decl → Bool
is_overloaded d = d.flags.overloads && d.flags.body

-- the second range lies within the first
abbrev pub contains : SourceRange → SourceRange → Bool
contains a b = nat_le a.start b.start && nat_le b.end a.end

-- a declaration that leads elsewhere: an alias, or something of another file
abbrev pub leads_elsewhere : Decl → Bool
leads_elsewhere d = cond (is_definition d.kind) false true

abbrev pub same_symbol : SymbolId → Option SymbolId → Bool
same_symbol r None = false
same_symbol r (Some q) = q.0 == r.0

abbrev pub same_package : Option PackageId → PackageId → Bool
same_package None g = false
same_package (Some q) g = q.0 == g.0
