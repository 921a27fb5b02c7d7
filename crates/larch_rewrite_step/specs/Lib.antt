pub mod Applying
pub mod Encoding
pub mod Exchanging
pub mod Holding
-- passed on to crates above, which then needn't list the crates that these are of
pub use Rattle.larch_derive_lines.specs.Way as DeriveLinesWay
pub use Rattle.larch_rewrite_match.specs.Bound as RewriteMatchBound
pub use Rattle.larch_rewrite_match.specs.Exchanged as RewriteMatchExchanged
pub use Rattle.larch_rewrite_match.specs.Rule as RewriteMatchRule
pub use Rattle.larch_rewrite_match.specs.declared.rule.Reason as RewriteMatchRuleReason
pub use Rattle.larch_rewrite_match.specs.declared.rule.RewriteRule as RewriteMatchRuleRewriteRule
pub use Rattle.larch_rewrite_match.specs.Search as RewriteMatchSearch
pub use Rattle.larch_rewrite_match.specs.declared.search.Match as RewriteMatchSearchMatch
