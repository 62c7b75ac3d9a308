-- What is read one level further in, where one more bracket is open or one more operator stands on the left.
use Rattle.std.specs.Prelude.{Ok}
use Rattle.c_ast.specs.declared.expression.Expr.{Expr}
use Rattle.c_ast.specs.declared.declaration.Abstract.{Abstract}
use Rattle.c_ast.specs.declared.declaration.TypeName.{TypeName}
use Rattle.c_grammar.specs.declared.phrases.Extent.{Extent}
use Rattle.c_grammar.specs.declared.phrases.Extent.TheVariants as extent
use Rattle.c_grammar.specs.declared.phrases.Wanted.{Wanted}
use Rattle.c_grammar.specs.declared.phrases.Wanted.TheVariants as wanted
use Rattle.c_grammar.specs.declared.phrases.Phrase.{Phrase}
use Rattle.c_grammar.specs.declared.phrases.Phrase.TheVariants as phrase
use Rattle.c_grammar.specs.declared.phrases.ReadSpecs.{ReadSpecs}
use Rattle.c_grammar.specs.declared.phrases.ReadDeclarator.{ReadDeclarator}
use Rattle.c_grammar.specs.declared.phrases.ReadParam.{ReadParam}
use Rattle.c_grammar.specs.Grammar.{Part, Unary, Cond, Assign, Comma}
use Rattle.c_grammar.specs.Reading.{Reader, ◌>>=◌}

abbrev pub part_of : Extent → Part
part_of extent.Unary = Unary
part_of extent.Cond = Cond
part_of extent.Assign = Assign
part_of extent.Comma = Comma

pub record Inner : Type 0 where
  pub expr : Extent → Reader Expr
  pub specs : Reader ReadSpecs
  pub declarator : Reader ReadDeclarator
  pub unnamed : Reader (Abstract Expr)
  pub param : Reader ReadParam
  pub type_in_parens : Reader TypeName

-- all of these by what is wanted
abbrev pub phrase_of : Inner → Wanted → Reader Phrase
phrase_of inner (wanted.Expr extent) s = inner.expr extent s >>= λ x. Ok (phrase.Expr x.0, x.1)
phrase_of inner wanted.Specs s = inner.specs s >>= λ x. Ok (phrase.Specs x.0, x.1)
phrase_of inner wanted.Declarator s = inner.declarator s >>= λ x. Ok (phrase.Declarator x.0, x.1)
phrase_of inner wanted.Unnamed s = inner.unnamed s >>= λ x. Ok (phrase.Unnamed x.0, x.1)
phrase_of inner wanted.ParamDeclarator s = inner.param s >>= λ x. Ok (phrase.Param x.0, x.1)
phrase_of inner wanted.TypeInParens s = inner.type_in_parens s >>= λ x. Ok (phrase.TypeInParens x.0, x.1)
